use Rattle.std.proofs.Common.{◌≡◌, length}
use Rattle.std.specs.Io.KnownBytes.{Keeps}
use Rattle.shape_text.proofs.window.read_some.Given as goal

abbrev pub invariant-loop : goal.invariant-loop
invariant-loop g l = (length l.chunk ≡ length l.initial.chunk) × Keeps (g.R.Read.remaining l.initial.stream) (g.R.Read.remaining l.stream)
