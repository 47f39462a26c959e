use Rattle.std.specs.Prelude.{◌≡◌, ◌≢◌}
use Rattle.std.specs.Io.KnownBytes.{Keeps}
use Rattle.std.specs.IoError.{error_kind}
use Rattle.std.specs.declared.io.ErrorKind.TheVariants.{Interrupted}
use Rattle.bincode_io.proofs.io_write.write_again.Given as goal

abbrev pub invariant-loop : goal.invariant-loop
invariant-loop g l =
    Keeps (g.W.Write.contents l.initial.stream) (g.W.Write.contents l.stream)
    × (error_kind l.initial.cause ≢ Interrupted → (l.cause ≡ l.initial.cause) × (l.stream ≡ l.initial.stream))
