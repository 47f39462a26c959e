-- The frames of a store, one after another, and how it ends.
use Rattle.std.specs.Prelude.{◌≡◌, ◌≢◌, ◌+◌, ℕ, List, []}
use Rattle.frames.specs.Frames.{Reads, IsThere, named_length, named_check, framed_check}
use Rattle.frames.specs.declared.Frame.TheVariants as frames
use Rattle.framed_store.specs.declared.ending.Ending.{Ending}
use Rattle.framed_store.specs.declared.ending.Ending.TheVariants as endings

-- the bytes begin with a frame of this size whose check fits
abbrev pub IsWhole : ℕ → List ℕ → ℕ → Type 0
IsWhole most bytes size = IsThere most bytes × (size ≡ 8 + named_length bytes) × (named_check bytes ≡ framed_check bytes)

-- they begin with one whose check does not fit
abbrev pub IsDamaged : ℕ → List ℕ → ℕ → Type 0
IsDamaged most bytes size = IsThere most bytes × (size ≡ 8 + named_length bytes) × (named_check bytes ≢ framed_check bytes)

-- the ending is that of a store whose rest is at this offset
abbrev pub EndsAt : ℕ → ℕ → List ℕ → Ending → Type 0
EndsAt most at remaining endings.Whole = remaining ≡ []
EndsAt most at remaining (endings.Torn offset) = (offset ≡ at) × Reads most remaining frames.Torn
EndsAt most at remaining (endings.TooLong offset n) = (offset ≡ at) × Reads most remaining (frames.TooLong n)
