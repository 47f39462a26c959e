use Rattle.bincode_lemmas.specs.TupleLaws.{then-same}
use Rattle.bincode_types.proofs.rows.ConsExact.tell_exact.Goals as goal

pub returns : goal.returns
returns g c = record {
  one_value = λ v w m h k. then-same (λ n. c.tell_exact.ensures.one_value v.0 w.0 n h.0 k.0)
      (λ n. c.tell_exact-2.ensures.one_value v.1 w.1 n h.1 k.1) m;
  comes_back = λ v w m h. then-same (λ n. c.tell_exact.ensures.comes_back v.0 w.0 n h.0)
      (λ n. c.tell_exact-2.ensures.comes_back v.1 w.1 n h.1) m;
}
