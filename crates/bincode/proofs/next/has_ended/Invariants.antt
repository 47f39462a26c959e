use Rattle.std.specs.Io.KnownBytes.{Keeps}
use Rattle.bincode.proofs.next.has_ended.Given as goal

abbrev pub invariant-loop : goal.invariant-loop
invariant-loop g l = Keeps (g.R.Read.remaining l.initial.stream) (g.R.Read.remaining l.stream)
