use Rattle.std.proofs.Common.{◌-◌, ◌^◌, ◌≤◌}
use Rattle.std.specs.Io.Buffered.{reader_remaining}
use Rattle.bincode_io.specs.Stream.{TellsBytes, known_bytes}
use Rattle.calls.proofs.Served.{ServedSoFar}
use Rattle.calls.proofs.serving.serve.Given as goal

abbrev pub invariant-frames : goal.invariant-frames
invariant-frames g l = record {
  counts : l.answers ≤ l.offset;
  is_known : TellsBytes (reader_remaining g.R.Read.remaining l.initial.input) → TellsBytes (reader_remaining g.R.Read.remaining l.input);
  so_far : TellsBytes (reader_remaining g.R.Read.remaining l.initial.input) → ServedSoFar g.S.Service.replies g.S.Service.refusal_reply g.S.Request.Wire.words g.S.Reply.Wire.words g.C.Config.setting g.C.Config.bound l.most
      (known_bytes (reader_remaining g.R.Read.remaining l.initial.input)) (g.S.Service.state l.initial.service) l.answers (g.S.Service.state l.service) (known_bytes (reader_remaining g.R.Read.remaining l.input))
      (g.W.Write.contents l.initial.output) (g.W.Write.contents l.output);
}

abbrev pub decreases-frames : goal.decreases-frames
decreases-frames g l = 2 ^ 64 - l.offset
