-- Decoding into a bounded number of values.
use Rattle.std.specs.Prelude.{◌≡◌, ◌<◌, ◌≤◌, ◌++◌, ℕ, List, Option, Result, IsErrAnd, MatchResult}
use Rattle.bincode_base.specs.declared.error.DecodeError.{DecodeError}
use Rattle.bincode_base.specs.declared.error.DecodeError.TheVariants.{LimitExceeded}
use Rattle.bincode_spec.specs.Answer.{StepsOf}
use Rattle.bincode_spec.specs.Charge.{Step, Passes, StaysWithin}
use Rattle.bincode_spec.specs.Decoding.{MayReportMemory}
use Rattle.bincode_spec.specs.Fault.{Fault, Tells}
use Rattle.bincode_spec.specs.Format.{Format}
use Rattle.bincode_spec.specs.Meaning.{Meaning}
use Rattle.bincode_spec.specs.Slice.{EndsSlice}
use Rattle.bincode_shape.specs.Counts.{as_u128}
use Rattle.bincode_shape_codec.specs.declared.within.DecodeWithinError.{DecodeWithinError}
use Rattle.bincode_shape_codec.specs.declared.within.DecodeWithinError.TheVariants as errors

-- the error of this many values
abbrev pub IsTooMany : ℕ → ℕ → DecodeWithinError → Type 0
IsTooMany values most e = e ≡ errors.TooManyValues values most

-- decoding failed with such an error
abbrev pub IsDecode : (DecodeError → Type 0) → DecodeWithinError → Type 0
IsDecode Why e = (why : DecodeError) × (e ≡ errors.Decode why) × Why why

-- each word within the limit that has no more values is accepted, or the error is `Memory` and decoding may allocate
abbrev pub FindsFew : {A : Type 0} → Format Meaning → Option ℕ → Type 0 → (Meaning → ℕ) → ℕ → List ℕ → Result A DecodeWithinError → Type 0
FindsFew F limit MayAllocate count most input result = (word remaining : List ℕ) (meaning : Meaning) (steps : List Step) → input ≡ word ++ remaining → F.Word word meaning steps → StaysWithin limit 0 steps →
    count meaning ≤ most → MatchResult result (λ _. Unit {0}) (IsDecode (MayReportMemory MayAllocate))

-- each that has more is refused with their number
abbrev pub RefusesMany : {A : Type 0} → Format Meaning → Option ℕ → (Meaning → ℕ) → ℕ → List ℕ → Result A DecodeWithinError → Type 0
RefusesMany F limit count most input result = (word remaining : List ℕ) (meaning : Meaning) (steps : List Step) → input ≡ word ++ remaining → F.Word word meaning steps → StaysWithin limit 0 steps →
    most < count meaning → IsErrAnd result (IsTooMany (as_u128 (count meaning)) most)

-- each fault within the limit is reported
abbrev pub TellsDecodeFaults : {A : Type 0} → Format Meaning → Option ℕ → List ℕ → Result A DecodeWithinError → Type 0
TellsDecodeFaults F limit input result = (why : Fault) (steps : List Step) → F.Faults input why steps → StaysWithin limit 0 steps → IsErrAnd result (IsDecode (Tells EndsSlice why))

-- charges that pass the limit are refused as such
abbrev pub KeepsDecodeLimit : {A : Type 0} → Format Meaning → Option ℕ → List ℕ → Result A DecodeWithinError → Type 0
KeepsDecodeLimit F limit input result = (steps : List Step) → StepsOf F input steps → Passes limit 0 steps → IsErrAnd result (IsDecode (λ e. e ≡ LimitExceeded))
