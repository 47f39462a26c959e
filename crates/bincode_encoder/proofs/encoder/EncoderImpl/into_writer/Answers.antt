use Rattle.std.proofs.Common.{refl}
use Rattle.bincode_encoder.proofs.encoder.EncoderImpl.into_writer.Goals as goal

pub returns : goal.returns
returns g c = refl
