use Rattle.bincode_encode.proofs.validated.tell_validated.Goals as goal

pub returns : goal.returns
returns g c = (rw c.of.ensures at c.tell_valid.ensures, g.met.T.Validate.each_passes _)
