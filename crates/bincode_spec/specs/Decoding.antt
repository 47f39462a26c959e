-- What decoding returns and leaves.
use Rattle.std.specs.Prelude.{◌≡◌, ◌⊎◌, ◌++◌, ℕ, List, Option, Result, IfOk, IfErr, IsErrAnd, MatchResult}
use Rattle.bincode_base.specs.declared.error.DecodeError.{DecodeError}
use Rattle.bincode_base.specs.declared.error.DecodeError.TheVariants.{LimitExceeded, Memory}
use Rattle.bincode_spec.specs.Fault.{Fault, Tells}
use Rattle.bincode_spec.specs.Charge.{Step, Passes, StaysWithin}
use Rattle.bincode_spec.specs.Format.{Format}
use Rattle.bincode_spec.specs.Meaning.{Meaning}
use Rattle.bincode_spec.specs.Device.{DeviceErrors, CountRises, Takes}
use Rattle.bincode_spec.specs.Answer.{Answer, Gave, Refused, PassedLimit, StepsOf}

-- the value is one that the meaning of the answer decodes to, which ends with these bytes left and at this charge
pub record Decodes {A : Type 0} (DecodesTo : A → Type 0) (a : Answer A) (remaining : List ℕ) (charge : ℕ) : Type 0 where
  pub meaning : A
  pub answer_is : a ≡ Gave meaning remaining charge
  pub is_decoded : DecodesTo meaning

-- The error tells the answer, and the charge is the one after the steps before the fault; or decoding may allocate and
-- the error is `Memory`; or it is one that the device counts, and the count rose. A prefix of the input was taken. Or
-- the error is one that the device does not count, and then nothing is said of the input.
pub data DecodeFailure {A : Type 0} (end_error : ℕ → DecodeError → Type 0) (device : DeviceErrors) (MayAllocate : Type 0) (a : Answer A) (before after : ℕ) (remaining remaining' : List ℕ) (charge : ℕ) (e : DecodeError) : Type 0 where
  by_fault : (why : Fault) → a ≡ Refused why charge → Tells end_error why e → Takes remaining remaining' → DecodeFailure end_error device MayAllocate a before after remaining remaining' charge e
  by_limit : a ≡ PassedLimit → e ≡ LimitExceeded → Takes remaining remaining' → DecodeFailure end_error device MayAllocate a before after remaining remaining' charge e
  by_memory : MayAllocate → e ≡ Memory → Takes remaining remaining' → DecodeFailure end_error device MayAllocate a before after remaining remaining' charge e
  by_failure : device.is_counted e → CountRises before after → Takes remaining remaining' → DecodeFailure end_error device MayAllocate a before after remaining remaining' charge e
  by_device : device.is_uncounted e → DecodeFailure end_error device MayAllocate a before after remaining remaining' charge e

-- the format may allocate, and the error is `Memory`: of any input, whether or not an allocation was refused
abbrev pub MayReportMemory : Type 0 → DecodeError → Type 0
MayReportMemory MayAllocate e = MayAllocate × (e ≡ Memory)

-- decoding may allocate, and the error is `Memory`; or it is one of the device
abbrev pub IsExcused : DeviceErrors → Type 0 → ℕ → ℕ → DecodeError → Type 0
IsExcused device MayAllocate before after e = MayReportMemory MayAllocate e ⊎ ((device.is_counted e × CountRises before after) ⊎ device.is_uncounted e)

-- what was taken is a word whose steps stay within the limit, and the value is one that it decodes to
pub record WordRead (F : Format Meaning) (limit : Option ℕ) (input remaining : List ℕ) (DecodesTo : Meaning → Type 0) : Type 0 where
  pub word : List ℕ
  pub meaning : Meaning
  pub steps : List Step
  pub input_is : input ≡ word ++ remaining
  pub is_word : F.Word word meaning steps
  pub within : StaysWithin limit 0 steps
  pub is_decoded : DecodesTo meaning

-- if a word whose steps stay within the limit begins the input, decoding succeeds, unless it is excused
abbrev pub AcceptsAll : {A : Type 0} → Format Meaning → Option ℕ → (DecodeError → Type 0) → List ℕ → Result A DecodeError → Type 0
AcceptsAll F limit Excused input result = (word remaining : List ℕ) (meaning : Meaning) (steps : List Step) → input ≡ word ++ remaining → F.Word word meaning steps → StaysWithin limit 0 steps →
    MatchResult result (λ _. Unit {0}) Excused

-- if the input has a fault and the steps before it stay within the limit, the error tells it, unless it is excused
abbrev pub ReportsFault : {A : Type 0} → (ℕ → DecodeError → Type 0) → Format Meaning → Option ℕ → (DecodeError → Type 0) → List ℕ → Result A DecodeError → Type 0
ReportsFault end_error F limit Excused input result = (why : Fault) (steps : List Step) → F.Faults input why steps → StaysWithin limit 0 steps → IsErrAnd result (λ e. Tells end_error why e ⊎ Excused e)

-- if the steps of the word or before the fault pass the limit, the error is `LimitExceeded`, unless it is excused
abbrev pub EnforcesLimit : {A : Type 0} → Format Meaning → Option ℕ → (DecodeError → Type 0) → List ℕ → Result A DecodeError → Type 0
EnforcesLimit F limit Excused input result = (steps : List Step) → StepsOf F input steps → Passes limit 0 steps → IsErrAnd result (λ e. (e ≡ LimitExceeded) ⊎ Excused e)

-- All that a call that decodes promises of what it reads from: of a reader or a stream whose bytes are known. It was at
-- `old` and is at `new`; an excused error tells nothing of the bytes, and one by which bytes are lost leaves any.
pub record IsRead {R T : Type 0} (is_known : R → Type 0) (remaining : R → List ℕ) (end_error : ℕ → DecodeError → Type 0) (Excused Loses : DecodeError → Type 0)
    (F : Format Meaning) (bound : Option ℕ) (DecodesTo : Meaning → T → Type 0) (result : Result T DecodeError) (old new : R) : Type 0 where
  -- what is taken is a word within the limit, and the value is one that it decodes to
  pub word : is_known old → IfOk result (λ v. WordRead F bound (remaining old) (remaining new) (λ m. DecodesTo m v))
  -- each word within the limit is read,
  pub found : is_known old → AcceptsAll F bound Excused (remaining old) result
  -- each fault within the limit is reported,
  pub fault : is_known old → ReportsFault end_error F bound Excused (remaining old) result
  -- and charges that pass the limit are refused
  pub limit : is_known old → EnforcesLimit F bound Excused (remaining old) result
  -- a failure leaves a rest of the input, unless bytes were lost
  pub left : is_known old → IfErr result (λ e. Loses e ⊎ Takes (remaining old) (remaining new))
  pub tells : is_known old → is_known new
