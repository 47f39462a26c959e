-- The error of a slice that is too short, and `Memory`.
use Rattle.std.specs.Prelude.{◌≡◌, ◌≢◌, ◌<◌, ℕ, List, [], length}
use Rattle.bincode_base.specs.declared.error.EncodeError.{EncodeError}
use Rattle.bincode_base.specs.declared.error.EncodeError.TheVariants.{Memory, UnexpectedEnd}

-- each word of the value is longer than the slice
abbrev pub TooShort : (List ℕ → Type 0) → ℕ → EncodeError → Type 0
TooShort Allowed room e = (e ≡ UnexpectedEnd) × ((word : List ℕ) → Allowed word → room < length word)

-- the error is `Memory`, of a value whose words all have bytes
abbrev pub LacksMemory : (List ℕ → Type 0) → EncodeError → Type 0
LacksMemory Allowed e = (e ≡ Memory) × ((word : List ℕ) → Allowed word → word ≢ [])
