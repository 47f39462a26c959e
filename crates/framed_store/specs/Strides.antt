-- Bytes and frames that are stepped over.
use Rattle.std.specs.Prelude.{◌≡◌, ◌≤◌, ℕ, List, length, drop, Option}
use Rattle.std.specs.Io.KnownBytes.{Consumes}
use Rattle.frames.specs.Frames.{Reads, IsThere}
use Rattle.frames.specs.declared.Frame.TheVariants as frames
use Rattle.framed_store.specs.declared.stepping.Stride.{Stride}
use Rattle.framed_store.specs.declared.stepping.Stride.TheVariants as strides
use Rattle.framed_store.specs.Surveys.{frame_size}

-- known bytes lose the first n
abbrev pub Skips : Option (List ℕ) → Option (List ℕ) → ℕ → Type 0
Skips old new n = (bytes : List ℕ) × Consumes old new bytes × (length bytes ≡ n)

-- what was stepped over, and what is left after a frame
abbrev pub StepsTo : ℕ → List ℕ → Stride → List ℕ → Type 0
StepsTo most old strides.End new = Reads most old frames.End
StepsTo most old strides.Torn new = Reads most old frames.Torn
StepsTo most old (strides.TooLong n) new = Reads most old (frames.TooLong n)
StepsTo most old (strides.Frame size) new = IsThere most old × (size ≡ frame_size old) × (new ≡ drop size old)

-- a frame has at least the bytes of its length and its check
abbrev pub IsLong : Stride → Type 0
IsLong strides.End = Unit {0}
IsLong strides.Torn = Unit {0}
IsLong (strides.TooLong _) = Unit {0}
IsLong (strides.Frame size) = 8 ≤ size
