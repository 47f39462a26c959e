use Rattle.bincode_lemmas.specs.TupleLaws.{four-same}
use Rattle.bincode_types.proofs.rows.Cons4Exact.tell_exact.Goals as goal

pub returns : goal.returns
returns g c = record {
  one_value = λ v w m h k.
      four-same (λ n. c.tell_exact.ensures.one_value v.0 w.0 n h.0 k.0) (λ n. c.tell_exact-2.ensures.one_value v.1 w.1 n h.1.0 k.1.0)
      (λ n. c.tell_exact-3.ensures.one_value v.2 w.2 n h.1.1.0 k.1.1.0)
      (λ n. c.tell_exact-4.ensures.one_value v.3 w.3 n h.1.1.1.0 k.1.1.1.0) (λ n. c.tell_exact-5.ensures.one_value v.4 w.4 n h.1.1.1.1 k.1.1.1.1) m;
  comes_back = λ v w m h.
      four-same (λ n. c.tell_exact.ensures.comes_back v.0 w.0 n h.0) (λ n. c.tell_exact-2.ensures.comes_back v.1 w.1 n h.1.0)
      (λ n. c.tell_exact-3.ensures.comes_back v.2 w.2 n h.1.1.0)
      (λ n. c.tell_exact-4.ensures.comes_back v.3 w.3 n h.1.1.1.0) (λ n. c.tell_exact-5.ensures.comes_back v.4 w.4 n h.1.1.1.1) m;
}
