-- Floats: their bits, in the byte order, under every integer encoding.
use Rattle.std.specs.Prelude.{◌≡◌, ℕ, List, true, to_bits, from_bits}
use Rattle.std.specs.Float.Ieee.{fits}
use Rattle.std.specs.Float.{Float, binary32, binary64, Format as FloatFormat}
use Rattle.bincode_base.specs.declared.config.IntEncoding.TheVariants.{Fixed}
use Rattle.bincode_base.specs.Setting.{Setting}
use Rattle.bincode_spec.specs.Format.{Format, map_format, written_as, charge_then}
use Rattle.bincode_spec.specs.Forms.{Form}
use Rattle.bincode_spec.specs.Integers.{digits}
use Rattle.bincode_spec.specs.Meaning.{Meaning, Real, IsReal}
use Rattle.bincode_spec.specs.Number.{digits_of}

-- the width in bytes
abbrev pub float_width : FloatFormat → ℕ
float_width binary32 = 4
float_width binary64 = 8

-- the setting with fixed integers
abbrev pub with_fixed : Setting → Setting
with_fixed s = record { order = s.order; encoding = Fixed }

-- any bits, in the byte order
abbrev pub float_bits : FloatFormat → Setting → Format ℕ
float_bits f setting = charge_then (float_width f) (digits setting.order (float_width f))

-- these bytes are the bits of a float of the format, which for a NaN are those of the quiet one
pub record IsFloatWord (f : FloatFormat) (setting : Setting) (bytes : List ℕ) (meaning : Meaning) : Type 0 where
  pub value : Float
  pub meaning_is : meaning ≡ Real value
  pub value_fits : fits f value ≡ true
  pub bytes_are : bytes ≡ digits_of setting.order (float_width f) (to_bits f value)

-- a float: any bits, those of every NaN too
abbrev pub float : FloatFormat → Setting → Format Meaning
float f setting = written_as (IsFloatWord f setting) (map_format (λ n. Real (from_bits f n)) (float_bits f setting))

-- the form of floats, by the float of a value
abbrev pub floats : {A : Type 0} → FloatFormat → (A → Float) → Form A
floats f get = record { format = float f; Bounds = λ v. fits f (get v) ≡ true; means = λ v. IsReal (get v); need = λ _. float_width f }
