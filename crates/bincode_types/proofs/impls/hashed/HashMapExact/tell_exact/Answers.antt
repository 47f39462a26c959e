use Rattle.std.specs.HashMap.Eq.{hash_map_eq_from_get}
use Rattle.bincode_lemmas.specs.HashedLaws.{entries-same, hashed_map-comes_back}
use Rattle.bincode_lemmas.specs.PairLaws.{pair-same}
use Rattle.bincode_types.proofs.Pairs.{both_keep}
use Rattle.bincode_types.proofs.impls.hashed.HashMapExact.tell_exact.Goals as goal

pub returns : goal.returns
returns g c =
    let laws = g.met.K.Eq.laws in
    let eq = g.K.PartialEq.eq in
    let same = g.V.PartialEq.eq in
    let valid = both_keep g.K.Wire.words.valid g.V.Wire.words.valid in
    let keys = c.tell_exact.ensures in
    let values = c.tell_exact-2.ensures in
    record {
      one_value = λ v w m h k i j. hash_map_eq_from_get eq same v w
          (entries-same eq laws same _ _ valid valid
          (λ e f n a b. pair-same (λ o. keys.one_value e.0 f.0 o a.0 b.0) (λ o. values.one_value e.1 f.1 o a.1.0 b.1.0) n) v.entries w.entries m h.1 k.1 h.0.1 k.0.1 i j);
      comes_back = λ v w m h i j. hash_map_eq_from_get eq same v w
          (hashed_map-comes_back eq laws _ _ valid same
          (λ e f n a. pair-same (λ o. keys.comes_back e.0 f.0 o a.0) (λ o. values.comes_back e.1 f.1 o a.1.0) n) v.entries w.entries m h.1 h.0.1 i j);
    }
