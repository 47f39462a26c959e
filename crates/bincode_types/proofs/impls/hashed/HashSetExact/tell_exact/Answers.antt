use Rattle.std.proofs.lemmas.Map.Lookups.{hash_set_eq_decides}
use Rattle.bincode_lemmas.specs.HashedLaws.{members-same, hashed_set-comes_back}
use Rattle.bincode_types.proofs.impls.hashed.HashSetExact.tell_exact.Goals as goal

pub returns : goal.returns
returns g c =
    let laws = g.met.K.Eq.laws in
    let eq = g.K.PartialEq.eq in
    let valid = g.K.Wire.words.valid in
    let exact = c.tell_exact.ensures in
    record {
      one_value = λ v w m h k i j. (hash_set_eq_decides laws v w).1
          (members-same eq laws g.K.Wire.words.means g.K.Wire.words.means valid valid exact.one_value v.keys w.keys m h.0.1 k.0.1 i j);
      comes_back = λ v w m h i j. (hash_set_eq_decides laws v w).1
          (hashed_set-comes_back eq laws g.K.Wire.words.means (λ x n. g.K.Wire.words.decodes_to n x) valid exact.comes_back v.keys w.keys m h.1 h.0.1 i j);
    }
