use Rattle.std.proofs.Common.{take}
use Rattle.stock_files.specs.Statuses.{IsGreatest}
use Rattle.stock_files.proofs.status.run_status.Given as goal

abbrev pub invariant-loop-status : goal.invariant-loop-status
invariant-loop-status l = IsGreatest (take l.status-index l.statuses) l.greatest
