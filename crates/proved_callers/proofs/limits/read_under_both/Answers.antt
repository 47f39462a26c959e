use Rattle.proved_callers.proofs.Larger.{larger-reads}
use Rattle.proved_callers.proofs.limits.read_under_both.Goals as goal

pub returns : goal.returns
returns g c = λ same no_tighter.
    let a = c.decode_from_slice-small.ensures in
    let b = c.decode_from_slice-large.ensures in
    larger-reads g.T.Wire.words.format g.T.Wire.words.lawful _ _ same _ _ no_tighter _ _ _ _ _ a.word b.word b.found
