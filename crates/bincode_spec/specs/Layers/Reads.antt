-- Reading a format without steps.
use Rattle.std.specs.Prelude.{◌≡◌, ◌≤◌, ℕ, List, [], Result, IfOk, IfErr}
use Rattle.std.specs.Borrow.{GName}
use Rattle.bincode_base.specs.declared.error.DecodeError.{DecodeError}
use Rattle.bincode_spec.specs.Fault.{Fault, Tells}
use Rattle.bincode_spec.specs.Format.{Format, Reading, Took, Failed}
use Rattle.bincode_spec.specs.Device.{DeviceErrors, CountRises, Takes}

-- The error tells the fault of the input, or the device failed with an error that it counts, and a prefix of the input
-- was taken; or with one that it does not count, and then nothing is said of the input.
pub data ReadFailure {A : Type 0} (end_error : ℕ → DecodeError → Type 0) (device : DeviceErrors) (reading : Reading A) (before after : ℕ) (remaining remaining' : List ℕ) (e : DecodeError) : Type 0 where
  by_fault : (why : Fault) → reading ≡ Failed why [] → Tells end_error why e → Takes remaining remaining' → ReadFailure end_error device reading before after remaining remaining' e
  by_failure : device.is_counted e → CountRises before after → Takes remaining remaining' → ReadFailure end_error device reading before after remaining remaining' e
  by_device : device.is_uncounted e → ReadFailure end_error device reading before after remaining remaining' e

-- A reader (`old` before, `new` after) read a word of a format without steps: the value has its meaning, or the error
-- tells why there is none. Failures don't fall, what remains stays known, and the references are unchanged.
pub record ReadsWord {R A T : Type 0} (is_known : R → Type 0) (remaining : R → List ℕ) (failures : R → ℕ) (loans : R → List GName)
    (end_error : ℕ → DecodeError → Type 0) (device : DeviceErrors) (format : Format A) (mean : T → A) (result : Result T DecodeError)
    (old new : R) : Type 0 where
  pub ok : is_known old → IfOk result (λ v. format.read (remaining old) ≡ Took (mean v) (remaining new) [])
  pub err : is_known old → IfErr result (ReadFailure end_error device (format.read (remaining old)) (failures old) (failures new) (remaining old) (remaining new))
  pub failures_monotone : failures old ≤ failures new
  pub tells : is_known old → is_known new
  pub same_loans : loans new ≡ loans old

-- a decoder did so, and charged nothing
pub record ReadsUncharged {D A T : Type 0} (is_known : D → Type 0) (remaining : D → List ℕ) (charge failures : D → ℕ) (loans : D → List GName)
    (end_error : ℕ → DecodeError → Type 0) (device : DeviceErrors) (format : Format A) (mean : T → A) (result : Result T DecodeError)
    (old new : D) : Type 0 where
  pub word : ReadsWord is_known remaining failures loans end_error device format mean result old new
  pub same_charge : charge new ≡ charge old
