use Rattle.bincode_lemmas.specs.HashedLaws.{hashed_set-shortest}
use Rattle.bincode_types.proofs.hashed.HashedKeysCanonical.tell_canonical.Goals as goal

pub returns : goal.returns
returns g c = λ s v w h. hashed_set-shortest g.K.PartialEq.eq g.met.K.Eq.laws g.K.Wire.words.means (λ x n. g.K.Wire.words.decodes_to n x)
    g.K.Wire.words.valid c.tell_exact.ensures.comes_back s g.K.Wire.words.claim (g.K.Wire.words.format s) (c.tell_canonical.ensures s) v.keys w.keys h.0 h.1
