use Rattle.bincode_types.proofs.scalars.tell_scalar_plain.Goals as goal

pub returns : goal.returns
returns g c = record {
  always_writable = λ s v h. tt;
  one_length = λ s v h. (g.T.Scalar.form_laws.spelled s v h).one_length;
  names_none = λ e h. h;
}
