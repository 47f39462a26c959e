use Rattle.std.proofs.Common.{◌-◌, ◌^◌}
use Rattle.bincode_io.specs.Stream.{TellsBytes, known_bytes}
use Rattle.framed_store.proofs.Strode.{Strode}
use Rattle.framed_store.proofs.stepping.step_over.Given as goal

abbrev pub invariant-frames : goal.invariant-frames
invariant-frames g l = record {
  is_known : TellsBytes (g.R.Read.remaining l.initial.stream) → TellsBytes (g.R.Read.remaining l.stream);
  so_far : TellsBytes (g.R.Read.remaining l.initial.stream) → Strode l.most (known_bytes (g.R.Read.remaining l.initial.stream)) l.offset (known_bytes (g.R.Read.remaining l.stream));
}

abbrev pub decreases-frames : goal.decreases-frames
decreases-frames g l = 2 ^ 64 - l.offset
