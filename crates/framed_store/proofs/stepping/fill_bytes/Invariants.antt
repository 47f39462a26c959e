use Rattle.std.proofs.Common.{◌≡◌, ◌≤◌, ◌-◌, length, take}
use Rattle.std.specs.Io.KnownBytes.{Consumes}
use Rattle.framed_store.proofs.stepping.fill_bytes.Given as goal

abbrev pub invariant-loop-at : goal.invariant-loop-at
invariant-loop-at g l = record {
  length_kept : length l.bytes ≡ length l.initial.bytes;
  within : l.at ≤ length l.bytes;
  bytes : Consumes (g.R.Read.remaining l.initial.stream) (g.R.Read.remaining l.stream) (take l.at l.bytes);
}

abbrev pub decreases-loop-at : goal.decreases-loop-at
decreases-loop-at g l = length l.initial.bytes - l.at
