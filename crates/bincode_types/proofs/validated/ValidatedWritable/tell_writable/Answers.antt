use Rattle.bincode_types.proofs.validated.ValidatedWritable.tell_writable.Goals as goal

pub returns : goal.returns
returns g c = λ s v h. c.tell_writable.ensures s (g.T.Validate.of v.0) h.0
