-- What decoding a value, and a run of values, promises.
use Rattle.std.specs.Prelude.{◌≡◌, ℕ, ℤ, ◌*◌, ◌≤◌, List, Option, Result, IfOk, IfErr}
use Rattle.std.specs.Borrow.{GName}
use Rattle.bincode_base.specs.declared.error.DecodeError.{DecodeError}
use Rattle.bincode_spec.specs.Device.{DeviceErrors}
use Rattle.bincode_spec.specs.Format.{Format, map_format, elements}
use Rattle.bincode_spec.specs.Meaning.{Meaning, Number, IsNumber, list_meaning}
use Rattle.bincode_spec.specs.Answer.{answer, Allows}
use Rattle.bincode_spec.specs.Layers.Claims.{Charges}
use Rattle.bincode_spec.specs.Decoding.{Decodes, DecodeFailure}
use Rattle.bincode_spec.specs.Run.{IsListOf}
use Rattle.bincode_spec.specs.Layers.Releases.{ReleasesAtMost}

-- A decoder (`old` before, `new` after) read one value, from a charge of `charged`: it is one that a word decodes
-- to, or the error says why there is none. Failures don't fall, what remains stays known, no earlier charge is
-- released, after a success the charge is within the limit if it was before, and the references are unchanged.
pub record Reads {D A T : Type 0} (is_known : D → Type 0) (remaining : D → List ℕ) (charge failures : D → ℕ) (loans : D → List GName) (limit : Option ℕ)
    (end_error : ℕ → DecodeError → Type 0) (device : DeviceErrors) (may_allocate : Type 0) (format : Format A) (decodes_to : A → T → Type 0) (charged : ℕ)
    (result : Result T DecodeError) (old new : D) : Type 0 where
  pub ok : is_known old → IfOk result (λ v. Decodes (λ m. decodes_to m v) (answer limit format (remaining old) charged) (remaining new) (charge new))
  pub err : is_known old → IfErr result (DecodeFailure end_error device may_allocate (answer limit format (remaining old) charged) (failures old) (failures new) (remaining old) (remaining new) (charge new))
  pub failures_monotone : failures old ≤ failures new
  pub tells : is_known old → is_known new
  pub charge_kept : charged ≤ charge new
  pub within : Allows limit charged → IfOk result (λ _. Allows limit (charge new))
  pub same_loans : loans new ≡ loans old

-- It read a value whose width is known: that was claimed, whether the bytes were there or not.
pub record ReadsCharged {D A T : Type 0} (is_known : D → Type 0) (remaining : D → List ℕ) (charge failures : D → ℕ) (loans : D → List GName) (limit : Option ℕ)
    (end_error : ℕ → DecodeError → Type 0) (device : DeviceErrors) (format : Format A) (decodes_to : A → T → Type 0) (width : ℕ)
    (result : Result T DecodeError) (old new : D) : Type 0 where
  pub reads : Reads is_known remaining charge failures loans limit end_error device ⊥ format decodes_to (charge old) result old new
  pub charges : Charges limit (charge old) width (charge new)

-- It read an integer so: the one that a word stands for, which is what the word means.
pub record ReadsInteger {D A : Type 0} (is_known : D → Type 0) (remaining : D → List ℕ) (charge failures : D → ℕ) (loans : D → List GName) (limit : Option ℕ)
    (end_error : ℕ → DecodeError → Type 0) (device : DeviceErrors) (format : Format A) (integer : A → ℤ) (width : ℕ)
    (result : Result A DecodeError) (old new : D) : Type 0 where
  pub reads : Reads is_known remaining charge failures loans limit end_error device ⊥ format (λ n v. n ≡ v) (charge old) result old new
  pub means : Reads is_known remaining charge failures loans limit end_error device ⊥ (map_format (λ k. Number (integer k)) format) (λ m v. IsNumber (integer v) m) (charge old) result old new
  pub charges : Charges limit (charge old) width (charge new)

-- It read a run of `count` values so, whose claims were reserved: no more than these were released.
pub record RunRead {D A T : Type 0} (is_known : D → Type 0) (remaining : D → List ℕ) (charge failures : D → ℕ) (loans : D → List GName) (limit : Option ℕ)
    (end_error : ℕ → DecodeError → Type 0) (device : DeviceErrors) (may_allocate : Type 0) (claim : ℕ) (format : Format Meaning) (decodes_to : Meaning → T → Type 0)
    (count : ℕ) (values : A → List T) (result : Result A DecodeError) (old new : D) : Type 0 where
  pub ok : is_known old → IfOk result (λ v. Decodes (λ ms. IsListOf (λ x m. decodes_to m x) (values v) (list_meaning ms)) (answer limit (elements count claim format) (remaining old) (charge old)) (remaining new) (charge new))
  pub err : is_known old → IfErr result (DecodeFailure end_error device may_allocate (answer limit (elements count claim format) (remaining old) (charge old)) (failures old) (failures new) (remaining old) (remaining new) (charge new))
  pub failures_monotone : failures old ≤ failures new
  pub tells : is_known old → is_known new
  pub charge_kept : ReleasesAtMost limit (count * claim) (charge old) (charge new)
  pub within : Allows limit (charge old) → IfOk result (λ _. Allows limit (charge new))
  pub same_loans : loans new ≡ loans old
