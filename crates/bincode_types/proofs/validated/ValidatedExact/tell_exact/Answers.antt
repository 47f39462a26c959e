use Rattle.bincode_types.proofs.validated.ValidatedExact.tell_exact.Goals as goal

pub returns : goal.returns
returns g c = record {
  one_value = λ v w m h k. c.tell_exact.ensures.one_value (g.T.Validate.of v.0) (g.T.Validate.of w.0) m h.0 k.0;
  comes_back = λ v w m h p q. c.tell_exact.ensures.comes_back (g.T.Validate.of v.0) (g.T.Validate.of w.0) m h.0 p q.0;
}
