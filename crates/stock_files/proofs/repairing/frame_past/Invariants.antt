use Rattle.std.proofs.Common.{◌<◌, ℕ}
use Rattle.stock_files.specs.Repairs.{EndsAfter}
use Rattle.stock_files.proofs.repairing.frame_past.Given as goal

abbrev pub invariant-loop-offset : goal.invariant-loop-offset
invariant-loop-offset l = (k : ℕ) → k < l.offset → ¬ EndsAfter 65526 l.bytes l.kept k
