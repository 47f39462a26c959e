use Rattle.bincode_lemmas.specs.SetLaws.{set-shortest}
use Rattle.bincode_types.proofs.ordered.KeysCanonical.tell_canonical.Goals as goal

pub returns : goal.returns
returns g c = λ s v w h. set-shortest g.K.Ord.cmp g.K.PartialEq.eq g.met.K.Ord.total g.met.K.Ord.matches_eq g.K.Wire.words.means (λ x n. g.K.Wire.words.decodes_to n x)
    g.K.Wire.words.valid c.tell_exact.ensures.comes_back s g.K.Wire.words.claim (g.K.Wire.words.format s) (c.tell_canonical.ensures s) v.keys w.keys h.0 h.1
