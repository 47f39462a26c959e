use Rattle.bincode_types.proofs.scalars.SingleInhabited.tell_inhabited.Goals as goal

pub returns : goal.returns
returns g c = g.T.Scalar.form_laws.some_word
