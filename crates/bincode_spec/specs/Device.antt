-- What readers and writers do and leave.
use Rattle.std.specs.Prelude.{◌≡◌, ◌-◌, ◌^◌, ◌<◌, ◌⊎◌, ℕ, List, ◌++◌, ◌≤◌, length, Option, Some, None}
use Rattle.bincode_base.specs.declared.error.DecodeError.{DecodeError}
use Rattle.bincode_base.specs.declared.error.EncodeError.{EncodeError}
use Rattle.bincode_base.specs.declared.error.EncodeError.TheVariants.{Memory}

-- the errors of a reader's device: those that raise its count of failures, and those that it does not count, which may
-- come at any call
pub record DeviceErrors : Type 1 where
  pub is_counted : DecodeError → Type 0
  pub is_uncounted : DecodeError → Type 0

-- a count of failures rose; one at its maximum passes for one that rose
abbrev pub CountRises : ℕ → ℕ → Type 0
CountRises before after = (before < after) ⊎ (after ≡ 2 ^ 64 - 1)

-- a prefix was taken
abbrev pub Takes : List ℕ → List ℕ → Type 0
Takes before after = (front : List ℕ) × (before ≡ front ++ after)

-- the piece is longer than the room
abbrev pub TooLong : Option ℕ → List ℕ → Type 0
TooLong None piece = ⊥
TooLong (Some room) piece = room < length piece

-- the piece fits the room
abbrev pub WithinRoom : Option ℕ → List ℕ → Type 0
WithinRoom None piece = Unit {0}
WithinRoom (Some room) piece = length piece ≤ room

-- the error is `Memory` or one of the device, or its count of failures rose
abbrev pub WriterFails : (EncodeError → Type 0) → ℕ → ℕ → EncodeError → Type 0
WriterFails device before after e = (e ≡ Memory) ⊎ (device e ⊎ CountRises before after)
