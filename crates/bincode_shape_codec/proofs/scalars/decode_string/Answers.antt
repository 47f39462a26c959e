use Rattle.std.proofs.Common.{refl}
use Rattle.bincode_collections.proofs.MadeAnswers.{read-made}
use Rattle.bincode_shape_codec.proofs.Images.{stops-alike}
use Rattle.bincode_shape_codec.proofs.scalars.decode_string.Goals as goal

pub returns-in-Ok : goal.returns-in-Ok
returns-in-Ok g c = read-made (λ m h. (refl, h.0)) c.in-Ok.ensures.read

pub returns-in-Err : goal.returns-in-Err
returns-in-Err g c = stops-alike (λ h. h) c.in-Err.ensures.read
