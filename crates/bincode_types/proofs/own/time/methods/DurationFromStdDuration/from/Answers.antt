use Rattle.std.proofs.Common.{arith}
use Rattle.bincode_types.proofs.own.time.methods.DurationFromStdDuration.from.Goals as goal

pub returns : goal.returns
returns c = omega arith
