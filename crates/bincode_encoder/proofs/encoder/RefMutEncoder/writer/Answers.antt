use Rattle.std.proofs.Common.{refl}
use Rattle.bincode_encoder.proofs.encoder.RefMutEncoder.writer.Goals as goal

pub returns : goal.returns
returns g c = ((refl, λ w. refl), c.writer.ensures)
