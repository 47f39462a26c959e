use Rattle.bincode_lemmas.specs.TupleLaws.{then-shortest}
use Rattle.bincode_types.proofs.rows.ConsCanonical.tell_canonical.Goals as goal

pub returns : goal.returns
returns g c = λ s v w h. then-shortest (c.tell_canonical.ensures s v.0 w.0 h.0) (c.tell_canonical-2.ensures s v.1 w.1 h.1)
