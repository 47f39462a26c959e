use Rattle.bincode_lemmas.specs.ChoiceLaws.{choice-same}
use Rattle.bincode_types.proofs.sums.EnumOfExact.tell_exact.Goals as goal

pub returns : goal.returns
returns g c = record {
  one_value = λ v w m h k. choice-same (λ n e p q. c.tell_exact.ensures.one_value v.0 w.0 n h.1 k.1 e p q) m;
  comes_back = λ v w m h. choice-same (λ n e p q. c.tell_exact.ensures.comes_back v.0 w.0 n h.1 e p q) m;
}
