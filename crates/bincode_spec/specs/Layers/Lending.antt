-- Bytes that are lent by a source which outlives its reader.
use Rattle.std.specs.Prelude.{◌≡◌, ◌≤◌, ◌⊎◌, ℕ, List, ◌++◌, length, Result, IfOk, IfErr}
use Rattle.std.specs.Borrow.{GName}
use Rattle.bincode_base.specs.declared.error.DecodeError.{DecodeError}
use Rattle.bincode_spec.specs.Device.{DeviceErrors, CountRises, Takes}
use Rattle.bincode_spec.specs.Layers.Pieces.{FallsShort}

-- A reader (`old` before, `new` after) was asked for `count` bytes of its source. They are the next ones; or too few
-- are left, or the device failed, and then a prefix of what was left is taken, unless the device does not count the
-- error. What remains stays known, failures don't fall, and the references are unchanged.
pub record TakesBytes {R T : Type 0} (is_known : R → Type 0) (remaining : R → List ℕ) (failures : R → ℕ) (loans : R → List GName)
    (end_error : ℕ → DecodeError → Type 0) (device : DeviceErrors) (bytes : T → List ℕ) (count : ℕ) (result : Result T DecodeError) (old new : R) : Type 0 where
  pub next : is_known old → IfOk result (λ v. remaining old ≡ bytes v ++ remaining new)
  pub whole : IfOk result (λ v. length (bytes v) ≡ count)
  pub why : is_known old → IfErr result (λ e. FallsShort end_error (remaining old) count e ⊎ (device.is_uncounted e ⊎ (device.is_counted e × CountRises (failures old) (failures new))))
  pub left : is_known old → IfErr result (λ e. device.is_uncounted e ⊎ Takes (remaining old) (remaining new))
  pub failures_monotone : failures old ≤ failures new
  pub tells : is_known old → is_known new
  pub same_loans : loans new ≡ loans old

-- A decoder takes bytes as its reader does, and charges nothing.
pub record LendsBytes {D T : Type 0} (is_known : D → Type 0) (remaining : D → List ℕ) (charge failures : D → ℕ) (loans : D → List GName)
    (end_error : ℕ → DecodeError → Type 0) (device : DeviceErrors) (bytes : T → List ℕ) (count : ℕ) (result : Result T DecodeError) (old new : D) : Type 0 where
  pub takes : TakesBytes is_known remaining failures loans end_error device bytes count result old new
  pub same_charge : charge new ≡ charge old
