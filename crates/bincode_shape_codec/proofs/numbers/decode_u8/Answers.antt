use Rattle.std.proofs.Common.{arith}
use Rattle.std.proofs.lemmas.Bool.{lt-ltb}
use Rattle.bincode_collections.proofs.MadeAnswers.{read-made}
use Rattle.bincode_shape_codec.proofs.Images.{stops-alike}
use Rattle.bincode_shape_codec.proofs.numbers.decode_u8.Goals as goal

pub returns-in-Ok : goal.returns-in-Ok
returns-in-Ok g c = read-made (λ m h. (lt-ltb c.in-Ok.number 256 (omega arith), h)) c.in-Ok.ensures.means

pub returns-in-Err : goal.returns-in-Err
returns-in-Err g c = stops-alike (λ h. h) c.in-Err.ensures.means
