-- `Memory`: never for what is empty.
use Rattle.std.specs.Prelude.{◌≡◌, ◌<◌, ◌⊎◌, ℕ, List, Result, IfErr}
use Rattle.bincode_base.specs.Setting.{Setting}
use Rattle.bincode_base.specs.declared.error.DecodeError.{DecodeError}
use Rattle.bincode_base.specs.declared.error.DecodeError.TheVariants.{Memory}
use Rattle.bincode_spec.specs.Charge.{Step}
use Rattle.bincode_spec.specs.Device.{DeviceErrors}
use Rattle.bincode_spec.specs.Format.{Took}
use Rattle.bincode_spec.specs.Words.{len}

-- the input begins with a length above 0
abbrev pub BeginsWithSome : Setting → List ℕ → Type 0
BeginsWithSome setting input = (count : ℕ) × (remaining : List ℕ) × (steps : List Step) × ((len setting).read input ≡ Took count remaining steps) × (0 < count)

-- an error of the reader itself: its end, or a failure of its device
abbrev pub IsOfReader : (ℕ → DecodeError → Type 0) → DeviceErrors → DecodeError → Type 0
IsOfReader ended device e = ((missing : ℕ) × ended missing e) ⊎ (device.is_counted e ⊎ device.is_uncounted e)

-- `Memory` only for an input that begins with a length above 0, or as an error of the reader itself
abbrev pub RefusedForSome : {D T : Type 0} → (D → Type 0) → (D → List ℕ) → Setting → (ℕ → DecodeError → Type 0) → DeviceErrors → Result T DecodeError → D → Type 0
RefusedForSome told remaining setting ended device result old = told old → IfErr result (λ e. e ≡ Memory → BeginsWithSome setting (remaining old) ⊎ IsOfReader ended device e)
