use Rattle.std.proofs.Common.{inr, refl}
use Rattle.bincode_base.proofs.error.DecodeError.unexpected_variant.Goals as goal

pub returns-in-Ok : goal.returns-in-Ok
returns-in-Ok c = rw c.in-Allowed.is (inr (c.in-Ok.allowed, refl, c.in-Ok.ensures))
