-- What is read and written of a type, and through a shape that describes it.
use Rattle.std.specs.Prelude.{◌≡◌, ◌⊎◌, ℕ, List, Result, Ok, Err}
use Rattle.bincode_base.specs.Setting.{Setting}
use Rattle.bincode_base.specs.declared.error.DecodeError.{DecodeError}
use Rattle.bincode_spec.specs.Layers.Alike.{TellAlike}
use Rattle.bincode_spec.specs.Allowed.{AllowedWord}
use Rattle.bincode_spec.specs.Decoding.{MayReportMemory}
use Rattle.bincode_spec.specs.Meaning.{Meaning}
use Rattle.bincode_spec.specs.Slice.{EndsSlice}
use Rattle.bincode_shape.specs.declared.shape.Shape.{Shape}
use Rattle.bincode_shape.specs.declared.shape.Value.{Value}
use Rattle.bincode_shape.specs.Rows.{AllowsImage}
use Rattle.bincode_shape.specs.Shapes.{TakesMemory, IsImage, meaning}
use Rattle.bincode_types.specs.TypeWords.{Words}

-- as many bytes were taken, and the value is one that the meaning of the other decodes to, an image of the shape
pub record SameImage {T : Type 0} (DecodesTo : Meaning → T → Type 0) (shape : Shape) (x : T × ℕ) (y : Value × ℕ) : Type 0 where
  pub same_length : y.1 ≡ x.1
  pub is_image : IsImage shape (meaning y.0) y.0
  pub same_meaning : DecodesTo (meaning y.0) x.0

-- both results of one input: a value and its image, or errors of one fault; or one of both is `Memory`, and decoding it
-- may allocate
abbrev pub ReadsAlike : {T : Type 0} → (Meaning → T → Type 0) → Type 0 → Shape → Result (T × ℕ) DecodeError → Result (Value × ℕ) DecodeError → Type 0
ReadsAlike DecodesTo MayAllocate shape (Ok x) (Ok y) = SameImage DecodesTo shape x y
ReadsAlike DecodesTo MayAllocate shape (Ok x) (Err e) = MayReportMemory (TakesMemory shape) e
ReadsAlike DecodesTo MayAllocate shape (Err d) (Ok y) = MayReportMemory MayAllocate d
ReadsAlike DecodesTo MayAllocate shape (Err d) (Err e) = MayReportMemory MayAllocate d ⊎ (MayReportMemory (TakesMemory shape) e ⊎ TellAlike EndsSlice EndsSlice d e)

-- an encoding of each value with the meaning of the image
abbrev pub AllowsEachValue : {T : Type 0} → Setting → Words T → Value → List ℕ → Type 0
AllowsEachValue {T} s W image word = (v : T) → W.means v (meaning image) → AllowedWord (W.means v) (W.format s) word

-- an encoding by shape of each image with the meaning of the value
abbrev pub AllowsEachImage : {T : Type 0} → Setting → Words T → Shape → T → List ℕ → Type 0
AllowsEachImage s W shape v word = (image : Value) → ((m : Meaning) → W.means v m → m ≡ meaning image) → AllowsImage s shape image word
