use Rattle.bincode_lemmas.specs.HashedLaws.{hashed_map-shortest}
use Rattle.bincode_lemmas.specs.PairLaws.{pair-first_same, pair-shortest}
use Rattle.bincode_types.proofs.Pairs.{both_keep}
use Rattle.bincode_types.proofs.hashed.HashedEntriesCanonical.tell_canonical.Goals as goal

pub returns : goal.returns
returns g c = λ s v w h.
    hashed_map-shortest g.K.PartialEq.eq g.met.K.Eq.laws (both_keep g.K.Wire.words.valid g.V.Wire.words.valid) _
    (λ x n. g.K.Wire.words.decodes_to n x) (λ x n. g.V.Wire.words.decodes_to n x)
    (λ e f n a. pair-first_same (λ o. c.tell_exact.ensures.comes_back e.0 f.0 o a.0) n) s _ (g.K.Wire.words.format s) (g.V.Wire.words.format s)
    (λ e f a. pair-shortest s (c.tell_canonical.ensures s e.0 f.0 a.0) (c.tell_canonical-2.ensures s e.1 f.1 a.1.0))
    v.entries w.entries h.0 h.1
