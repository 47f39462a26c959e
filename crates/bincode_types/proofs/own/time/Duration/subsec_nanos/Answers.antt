use Rattle.std.proofs.Common.{refl}
use Rattle.bincode_types.proofs.own.time.Duration.subsec_nanos.Goals as goal

pub returns-clause-nanos : goal.returns-clause-nanos
returns-clause-nanos c = refl
