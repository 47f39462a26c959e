use Rattle.std.proofs.Common.{◌+◌, ◌-◌, ◌≤◌, length, drop}
use Rattle.framed_store.proofs.Stepped.{Counted}
use Rattle.framed_store.proofs.surveying.survey_frames.Given as goal

abbrev pub invariant-frames : goal.invariant-frames
invariant-frames l = record {
  within : l.offset ≤ length l.store;
  counts : l.whole + l.damaged ≤ l.offset;
  so_far : Counted l.most l.store l.whole l.damaged (drop l.offset l.store);
}

abbrev pub decreases-frames : goal.decreases-frames
decreases-frames l = length l.store - l.offset
