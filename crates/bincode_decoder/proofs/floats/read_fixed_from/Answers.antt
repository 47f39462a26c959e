use Rattle.bincode_io.proofs.WordAnswers.{lent-word}
use Rattle.bincode_decoder.proofs.floats.read_fixed_from.Goals as goal

pub returns : goal.returns
returns g c =
    let d = c.args.decoder.now in
    let new = c.read.new.read in
    let lent = g.met.D.Decoder in
    record {
      word = lent-word (lent.reader_is_known d) (lent.remaining_is d) (lent.failures_is d) (lent.put_is_known d new) (lent.put_remaining d new) (lent.put_failures d new)
          (lent.put_loans d new) (rw (c.reader.ensures.value, c.endianness-endian.ensures) at c.read.ensures);
      same_charge = lent.put_charge d new;
    }
