use Rattle.bincode_lemmas.specs.TupleLaws.{four-shortest}
use Rattle.bincode_types.proofs.rows.Cons4Canonical.tell_canonical.Goals as goal

pub returns : goal.returns
returns g c = λ s v w h.
    four-shortest (c.tell_canonical.ensures s v.0 w.0 h.0) (c.tell_canonical-2.ensures s v.1 w.1 h.1.0) (c.tell_canonical-3.ensures s v.2 w.2 h.1.1.0)
    (c.tell_canonical-4.ensures s v.3 w.3 h.1.1.1.0) (c.tell_canonical-5.ensures s v.4 w.4 h.1.1.1.1)
