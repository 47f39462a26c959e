use Rattle.std.proofs.Common.{◌≤◌}
use Rattle.conformance.proofs.rows.run_table.Given as goal

abbrev pub invariant-loop-row : goal.invariant-loop-row
invariant-loop-row g l = l.failed ≤ l.row-index
