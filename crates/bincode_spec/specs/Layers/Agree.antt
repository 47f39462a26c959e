-- How several readings of one input, and of its prefixes, agree.
use Rattle.std.specs.Prelude.{◌≡◌, ℕ, Result, Ok, Err, IsErrAnd}
use Rattle.bincode_base.specs.declared.error.DecodeError.{DecodeError}
use Rattle.bincode_base.specs.declared.error.DecodeError.TheVariants.{UnexpectedEnd, LimitExceeded}
use Rattle.bincode_spec.specs.Decoding.{MayReportMemory}
use Rattle.bincode_spec.specs.Fault.{Fault, Tells, IsEnd}
use Rattle.bincode_spec.specs.Meaning.{Meaning}
use Rattle.bincode_spec.specs.Slice.{EndsSlice}

-- one meaning decodes to both values, with the same number of bytes
pub record SameReading {T : Type 0} (DecodesTo : Meaning → T → Type 0) (x y : T × ℕ) : Type 0 where
  pub same_length : x.1 ≡ y.1
  pub meaning : Meaning
  pub first : DecodesTo meaning x.0
  pub second : DecodesTo meaning y.0

-- both errors are `LimitExceeded`, or both tell one fault, which is no end of the input
pub data SameFault (d e : DecodeError) : Type 0 where
  both_passed : d ≡ LimitExceeded → e ≡ LimitExceeded → SameFault d e
  both_tell : (why : Fault) → ¬ (IsEnd why) → Tells EndsSlice why d → Tells EndsSlice why e → SameFault d e

-- both results are values for one meaning, or errors of one fault
abbrev pub SameAnswer : {T : Type 0} → (Meaning → T → Type 0) → Result (T × ℕ) DecodeError → Result (T × ℕ) DecodeError → Type 0
SameAnswer DecodesTo (Ok x) (Ok y) = SameReading DecodesTo x y
SameAnswer DecodesTo (Err d) (Err e) = SameFault d e
SameAnswer DecodesTo (Ok x) (Err e) = ⊥
SameAnswer DecodesTo (Err d) (Ok y) = ⊥

-- the error says that the input ended too early
abbrev pub IsCut : DecodeError → Type 0
IsCut e = (missing : ℕ) × (e ≡ UnexpectedEnd missing)

-- the result is that error
abbrev pub WasCut : {T : Type 0} → Result T DecodeError → Type 0
WasCut result = IsErrAnd result IsCut

-- the result is `Memory`, and decoding may allocate
abbrev pub WasRefused : {T : Type 0} → Type 0 → Result T DecodeError → Type 0
WasRefused MayAllocate result = IsErrAnd result (MayReportMemory MayAllocate)
