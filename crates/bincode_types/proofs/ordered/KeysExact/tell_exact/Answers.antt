use Rattle.bincode_lemmas.specs.RunAllowedLaws.{run-same}
use Rattle.bincode_lemmas.specs.SetLaws.{set-comes_back}
use Rattle.bincode_types.proofs.ordered.KeysExact.tell_exact.Goals as goal

pub returns : goal.returns
returns g c = record {
  one_value = λ v w m h k. run-same g.K.Wire.words.means g.K.Wire.words.means g.K.Wire.words.valid g.K.Wire.words.valid g.K.PartialEq.eq c.tell_exact.ensures.one_value
      v.keys w.keys h.0.1 k.0.1 m;
  comes_back = λ v w m h. set-comes_back g.K.Ord.cmp g.K.PartialEq.eq g.met.K.Ord.total g.met.K.Ord.matches_eq g.K.Wire.words.means (λ x n. g.K.Wire.words.decodes_to n x)
      g.K.Wire.words.valid c.tell_exact.ensures.comes_back v.keys w.keys m h.1 h.0.1;
}
