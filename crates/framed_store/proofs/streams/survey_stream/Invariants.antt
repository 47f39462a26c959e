use Rattle.std.proofs.Common.{◌+◌, ◌-◌, ◌^◌, ◌≤◌}
use Rattle.bincode_io.specs.Stream.{TellsBytes, known_bytes}
use Rattle.framed_store.proofs.Taken.{Surveyed}
use Rattle.framed_store.proofs.streams.survey_stream.Given as goal

abbrev pub invariant-frames : goal.invariant-frames
invariant-frames g l = record {
  counts : l.whole + l.damaged ≤ l.offset;
  is_known : TellsBytes (g.R.Read.remaining l.initial.stream) → TellsBytes (g.R.Read.remaining l.stream);
  so_far : TellsBytes (g.R.Read.remaining l.initial.stream) →
      Surveyed l.most (known_bytes (g.R.Read.remaining l.initial.stream)) l.offset l.whole l.damaged (known_bytes (g.R.Read.remaining l.stream));
}

abbrev pub decreases-frames : goal.decreases-frames
decreases-frames g l = 2 ^ 64 - l.offset
