use Rattle.std.proofs.Common.{◌≡◌, length}
use Rattle.std.specs.Prelude.{◌≢◌}
use Rattle.std.specs.Io.KnownBytes.{Keeps}
use Rattle.std.specs.IoError.{error_kind}
use Rattle.std.specs.declared.io.ErrorKind.TheVariants.{Interrupted}
use Rattle.bincode_io.proofs.io_read.read_again.Given as goal

abbrev pub invariant-loop : goal.invariant-loop
invariant-loop g l =
    (length l.bytes ≡ length l.initial.bytes) × Keeps (g.R.Read.remaining l.initial.stream) (g.R.Read.remaining l.stream)
    × (error_kind l.initial.cause ≢ Interrupted → (l.cause ≡ l.initial.cause) × (l.stream ≡ l.initial.stream))
