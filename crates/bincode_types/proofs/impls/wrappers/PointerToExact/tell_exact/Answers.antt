use Rattle.bincode_types.proofs.impls.wrappers.PointerToExact.tell_exact.Goals as goal

pub returns : goal.returns
returns g c = record {
  one_value = λ v w. c.tell_exact.ensures.one_value v.to w.to;
  comes_back = λ v w. c.tell_exact.ensures.comes_back v.to w.to;
}
