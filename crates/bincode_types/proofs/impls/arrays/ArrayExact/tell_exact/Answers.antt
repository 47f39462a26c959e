use Rattle.bincode_lemmas.specs.RunAllowedLaws.{run-same}
use Rattle.bincode_types.proofs.impls.arrays.ArrayExact.tell_exact.Goals as goal

pub returns : goal.returns
returns g c = record {
  one_value = λ v w m h k. run-same g.T.Wire.words.means g.T.Wire.words.means g.T.Wire.words.valid g.T.Wire.words.valid g.T.PartialEq.eq c.tell_exact.ensures.one_value v w h.1 k.1 m;
  comes_back = λ v w m h.
      run-same g.T.Wire.words.means (λ x n. g.T.Wire.words.decodes_to n x) g.T.Wire.words.valid (λ x. Unit {0}) g.T.PartialEq.eq
      (λ x y n p q. c.tell_exact.ensures.comes_back x y n p) v w h.1
      (λ k d lt. tt) m;
}
