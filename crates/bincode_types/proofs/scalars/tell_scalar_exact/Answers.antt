use Rattle.bincode_types.proofs.scalars.tell_scalar_exact.Goals as goal

pub returns : goal.returns
returns g c = record {
  one_value = λ v w m h k. g.met.T.Scalar.same v w m;
  comes_back = λ v w m h. g.met.T.Scalar.same v w m;
}
