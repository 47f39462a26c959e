-- Counts of values that were read in turn.
use Rattle.std.specs.Prelude.{ℕ, ◌+◌, List, [], ◌∷◌, Result, Ok, Err}
use Rattle.bincode_base.specs.declared.error.DecodeError.{DecodeError}
use Rattle.bincode_shape.specs.Counts.{as_u128}

-- the sum of some counts
abbrev pub total : List ℕ → ℕ
total [] = 0
total (n ∷ ns) = n + total ns

-- one more for the value that holds those counted
abbrev pub with_whole : Result ℕ DecodeError → Result ℕ DecodeError
with_whole (Ok n) = Ok (as_u128 (n + 1))
with_whole (Err e) = Err e
