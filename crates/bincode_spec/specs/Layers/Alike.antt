-- How two readers agree that have the same bytes left.
use Rattle.std.specs.Prelude.{◌≡◌, ◌⊎◌, ℕ, List, Result, Ok, Err}
use Rattle.bincode_base.specs.declared.error.DecodeError.{DecodeError}
use Rattle.bincode_base.specs.declared.error.DecodeError.TheVariants.{LimitExceeded}
use Rattle.bincode_spec.specs.Device.{DeviceErrors, CountRises}
use Rattle.bincode_spec.specs.Fault.{Fault, Tells}

-- both errors are `LimitExceeded`, or both tell one fault, each with its reader's error for the end of the input
pub data TellAlike (end_error end_error' : ℕ → DecodeError → Type 0) (d e : DecodeError) : Type 0 where
  both_passed : d ≡ LimitExceeded → e ≡ LimitExceeded → TellAlike end_error end_error' d e
  both_tell : (why : Fault) → Tells end_error why d → Tells end_error' why e → TellAlike end_error end_error' d e

-- the device failed, by an error that it counts or by one that it does not
abbrev pub DeviceFailed : DeviceErrors → ℕ → ℕ → DecodeError → Type 0
DeviceFailed device before after e = (device.is_counted e × CountRises before after) ⊎ device.is_uncounted e

-- one meaning decodes to both values, and equal bytes and an equal charge are left
pub record GivenAlike {A T : Type 0} (DecodesTo : A → T → Type 0) (remaining remaining' : List ℕ) (charge charge' : ℕ) (v w : T) : Type 0 where
  pub meaning : A
  pub first : DecodesTo meaning v
  pub second : DecodesTo meaning w
  pub same_remaining : remaining' ≡ remaining
  pub same_charge : charge' ≡ charge

-- the results of both readers: values alike, or errors of one fault, unless one of the errors is excused
abbrev pub ReadAlike : {A T : Type 0} → (end_error end_error' : ℕ → DecodeError → Type 0) → (Excused Excused' : DecodeError → Type 0) → (A → T → Type 0) → (remaining remaining' : List ℕ) → (charge charge' : ℕ) → Result T DecodeError → Result T DecodeError → Type 0
ReadAlike end_error end_error' Excused Excused' DecodesTo remaining remaining' charge charge' (Ok v) (Ok w) = GivenAlike DecodesTo remaining remaining' charge charge' v w
ReadAlike end_error end_error' Excused Excused' DecodesTo remaining remaining' charge charge' (Ok v) (Err e) = Excused' e
ReadAlike end_error end_error' Excused Excused' DecodesTo remaining remaining' charge charge' (Err d) (Ok w) = Excused d
ReadAlike end_error end_error' Excused Excused' DecodesTo remaining remaining' charge charge' (Err d) (Err e) = Excused d ⊎ (Excused' e ⊎ TellAlike end_error end_error' d e)
