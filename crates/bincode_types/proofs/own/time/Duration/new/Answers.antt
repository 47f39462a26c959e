use Rattle.std.proofs.Common.{refl, arith}
use Rattle.bincode_types.proofs.own.time.Duration.new.Goals as goal

pub invariant_of-result : goal.invariant_of-result
invariant_of-result c = record { below_a_second = omega arith }

pub returns-clause-secs : goal.returns-clause-secs
returns-clause-secs c = refl

pub returns-clause-nanos : goal.returns-clause-nanos
returns-clause-nanos c = refl
