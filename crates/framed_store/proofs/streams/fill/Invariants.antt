use Rattle.std.proofs.Common.{◌-◌, ◌≤◌, vec_len, length, take, drop}
use Rattle.std.specs.Io.{StartsWith}
use Rattle.std.specs.Io.KnownBytes.{Consumes}
use Rattle.framed_store.proofs.streams.fill.Given as goal

abbrev pub invariant-loop-filled : goal.invariant-loop-filled
invariant-loop-filled g l = record {
  within : vec_len l.buffer ≤ l.count;
  filled : l.filled ≤ vec_len l.buffer;
  front : StartsWith (take l.filled l.buffer.items) l.initial.buffer.items;
  bytes : Consumes (g.R.Read.remaining l.initial.stream) (g.R.Read.remaining l.stream) (drop (length l.initial.buffer.items) (take l.filled l.buffer.items));
}

abbrev pub decreases-loop-filled : goal.decreases-loop-filled
decreases-loop-filled g l = l.count - l.filled
