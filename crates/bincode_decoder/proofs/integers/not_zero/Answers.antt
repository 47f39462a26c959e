use Rattle.std.proofs.Common.{refl}
use Rattle.bincode_decoder.proofs.integers.not_zero.Goals as goal

pub returns-in-Some : goal.returns-in-Some
returns-in-Some g c = rw c.in-Some.is refl

pub returns-in-None : goal.returns-in-None
returns-in-None g c = rw c.in-None.is refl
