use Rattle.std.proofs.Common.{rules}
use Rattle.bincode_base.proofs.error.DecodeError.allowed.Goals as goal

pub returns-in-UnexpectedVariant : goal.returns-in-UnexpectedVariant
returns-in-UnexpectedVariant c = search rules
