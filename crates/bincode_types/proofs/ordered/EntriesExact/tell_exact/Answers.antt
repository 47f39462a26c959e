use Rattle.bincode_lemmas.specs.MapLaws.{map-comes_back}
use Rattle.bincode_lemmas.specs.PairLaws.{pair-same}
use Rattle.bincode_lemmas.specs.RunAllowedLaws.{run-same}
use Rattle.bincode_types.proofs.Pairs.{both_keep}
use Rattle.bincode_types.proofs.ordered.EntriesExact.tell_exact.Goals as goal

pub returns : goal.returns
returns g c =
    let valid = both_keep g.K.Wire.words.valid g.V.Wire.words.valid in
    record {
      one_value = λ v w m h k. run-same _ _ valid valid _
          (λ e f n a b. pair-same (λ o. c.tell_exact.ensures.one_value e.0 f.0 o a.0 b.0) (λ o. c.tell_exact-2.ensures.one_value e.1 f.1 o a.1.0 b.1.0) n)
          v.entries w.entries h.0.1 k.0.1 m;
      comes_back = λ v w m h. map-comes_back g.K.Ord.cmp g.K.PartialEq.eq g.met.K.Ord.total g.met.K.Ord.matches_eq valid g.V.PartialEq.eq _ _
          (λ e f n a. pair-same (λ o. c.tell_exact.ensures.comes_back e.0 f.0 o a.0) (λ o. c.tell_exact-2.ensures.comes_back e.1 f.1 o a.1.0) n)
          v.entries w.entries m h.1 h.0.1;
    }
