-- The parts of a `Duration`.
use Rattle.std.specs.Prelude.{ℕ, ◌+◌, ◌*◌}
use Rattle.bincode_types.specs.declared.own.time.Duration.{Duration}
use Rattle.bincode_spec.specs.Words.{second_in_nanos}

-- its whole seconds
abbrev pub secs_of : Duration → ℕ
secs_of d = d.secs

-- the nanoseconds below a second
abbrev pub nanos_of : Duration → ℕ
nanos_of d = d.nanos

-- the span in nanoseconds
abbrev pub in_nanos : Duration → ℕ
in_nanos d = secs_of d * second_in_nanos + nanos_of d
