use Rattle.std.proofs.Common.{refl}
use Rattle.bincode_types.proofs.own.time.methods.DurationDefault.default.Goals as goal

pub returns-clause-nanos : goal.returns-clause-nanos
returns-clause-nanos c = refl
