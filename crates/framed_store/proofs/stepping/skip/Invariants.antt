use Rattle.std.proofs.Common.{◌≡◌, ◌≤◌, ◌-◌, length}
use Rattle.framed_store.specs.Strides.{Skips}
use Rattle.framed_store.proofs.stepping.skip.Given as goal

abbrev pub invariant-loop-skipped : goal.invariant-loop-skipped
invariant-loop-skipped g l = record {
  within : l.skipped ≤ l.count;
  room : length l.piece ≡ 1024;
  bytes : Skips (g.R.Read.remaining l.initial.stream) (g.R.Read.remaining l.stream) l.skipped;
}

abbrev pub decreases-loop-skipped : goal.decreases-loop-skipped
decreases-loop-skipped g l = l.count - l.skipped
