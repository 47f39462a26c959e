use Rattle.std.proofs.Common.{◌∙◌}
use Rattle.bincode_collections.proofs.MadeAnswers.{read-made}
use Rattle.bincode_shape_codec.proofs.Images.{stops-alike}
use Rattle.bincode_shape_codec.proofs.numbers.decode_number.Goals as goal

pub returns-in-Ok : goal.returns-in-Ok
returns-in-Ok g c = read-made (λ m h. (c.to_value.ensures.0, h ∙ c.to_value.ensures.1)) c.in-Ok.ensures.means

pub returns-in-Err : goal.returns-in-Err
returns-in-Err g c = stops-alike (λ h. h) c.in-Err.ensures.means
