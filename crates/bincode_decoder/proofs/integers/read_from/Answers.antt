use Rattle.bincode_decoder.proofs.ReadAnswers.{lent-fills}
use Rattle.bincode_decoder.proofs.integers.read_from.Goals as goal

pub returns-clause-fills : goal.returns-clause-fills
returns-clause-fills g c =
    let d = c.args.decoder.now in
    let new = c.read.new.self in
    let lent = g.met.D.Decoder in
    lent-fills (lent.reader_is_known d) (lent.remaining_is d) (lent.failures_is d) (lent.put_is_known d new) (lent.put_remaining d new) (lent.put_failures d new)
    (lent.put_loans d new) (rw c.reader.ensures.value at c.read.ensures)

pub returns-clause-charge : goal.returns-clause-charge
returns-clause-charge g c = g.met.D.Decoder.put_charge c.args.decoder.now c.read.new.self
