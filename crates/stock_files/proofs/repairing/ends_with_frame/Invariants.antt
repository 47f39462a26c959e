use Rattle.std.proofs.Common.{◌<◌, ℕ, drop}
use Rattle.stock_files.specs.Repairs.{IsFrame}
use Rattle.stock_files.proofs.repairing.ends_with_frame.Given as goal

abbrev pub invariant-loop-offset : goal.invariant-loop-offset
invariant-loop-offset l = (k : ℕ) → k < l.offset → ¬ IsFrame 65526 (drop k l.bytes)
