-- The forms of scalars: numbers, truth values and characters.
use Rattle.std.specs.Prelude.{◌≡◌, ℕ, List, ◌<◌, ◌^◌, ℤ, pos, unsigned_abs, FitsSigned, Bool}
use Rattle.std.specs.Int.{Width, w8}
use Rattle.std.specs.Char.{IsScalar}
use Rattle.bincode_base.specs.declared.error.IntegerType.{IntegerType}
use Rattle.bincode_base.specs.declared.error.IntegerType.TheVariants.{U8, I8}
use Rattle.bincode_base.specs.Setting.{Setting}
use Rattle.bincode_spec.specs.Format.{Format, map_format}
use Rattle.bincode_spec.specs.Integers.{unsigned_integer, signed_integer, unsigned_byte, signed_byte, width_in_bytes}
use Rattle.bincode_spec.specs.Meaning.{Meaning, Number, IsNumber, IsTruth, IsCharacter, Nothing}
use Rattle.bincode_spec.specs.Need.{char_needs}
use Rattle.bincode_spec.specs.Words.{not_zero_by, truth, character, nothing}

-- the format, which values are in bounds, what each means, and how large a limit an input needs
pub record Form (A : Type 0) : Type 1 where
  pub format : Setting → Format Meaning
  pub Bounds : A → Type 0
  pub means : A → Meaning → Type 0
  pub need : List ℕ → ℕ

-- the form of integers, by the integer of a value
abbrev pub numbers : {A B : Type 0} → ℕ → (A → ℤ) → (A → Type 0) → (Setting → Format A) → (B → A) → Form B
numbers width integer Bounds F get = record { format = λ s. map_format (λ k. Number (integer k)) (F s); Bounds = λ v. Bounds (get v); means = λ v. IsNumber (integer (get v)); need = λ _. width }

-- the form of `NonZero` ones
module _ {A B : Type 0} (width : ℕ) (integer : A → ℤ) (Bounds : A → Type 0) (F : Setting → Format A) (get : B → A) where
  abbrev pub numbers_not_zero : (A → ℕ) → IntegerType → Form B
  numbers_not_zero size name = record {
    format = λ s. map_format (λ k. Number (integer k)) (not_zero_by size name (F s));
    Bounds = λ v. Bounds (get v) × (0 < size (get v));
    means = λ v. IsNumber (integer (get v));
    need = λ _. width;
  }

-- unsigned numbers
abbrev pub bytes : Form ℕ
bytes = numbers 1 pos (λ n. n < 2 ^ 8) (λ s. unsigned_byte) (λ n. n)

abbrev pub unsigned_numbers : IntegerType → ℕ → Form ℕ
unsigned_numbers name width = numbers width pos (λ n. n < 256 ^ width) (unsigned_integer name width) (λ n. n)

-- signed numbers
abbrev pub signed_bytes : Form ℤ
signed_bytes = numbers 1 (λ z. z) (FitsSigned w8) (λ s. signed_byte) (λ z. z)

abbrev pub signed_numbers : IntegerType → Width → Form ℤ
signed_numbers name w = numbers (width_in_bytes w) (λ z. z) (FitsSigned w) (signed_integer name (width_in_bytes w)) (λ z. z)

-- `NonZero` integers, by the integer of a value
module _ {A : Type 0} where
  abbrev pub bytes_not_zero : (A → ℕ) → Form A
  bytes_not_zero get = numbers_not_zero 1 pos (λ n. n < 2 ^ 8) (λ s. unsigned_byte) get (λ n. n) U8

  abbrev pub unsigned_not_zero : (A → ℕ) → IntegerType → ℕ → Form A
  unsigned_not_zero get name width = numbers_not_zero width pos (λ n. n < 256 ^ width) (unsigned_integer name width) get (λ n. n) name

  abbrev pub signed_bytes_not_zero : (A → ℤ) → Form A
  signed_bytes_not_zero get = numbers_not_zero 1 (λ z. z) (FitsSigned w8) (λ s. signed_byte) get unsigned_abs I8

  abbrev pub signed_not_zero : (A → ℤ) → IntegerType → Width → Form A
  signed_not_zero get name w = numbers_not_zero (width_in_bytes w) (λ z. z) (FitsSigned w) (signed_integer name (width_in_bytes w)) get unsigned_abs name

-- truth values
abbrev pub truths : Form Bool
truths = record { format = λ s. truth; Bounds = λ v. Unit {0}; means = IsTruth; need = λ _. 1 }

-- characters
abbrev pub characters : Form ℕ
characters = record { format = λ s. character; Bounds = IsScalar; means = IsCharacter; need = char_needs }

-- no parts
abbrev pub units : Form (Unit {0})
units = record { format = λ s. nothing; Bounds = λ v. Unit {0}; means = λ v m. m ≡ Nothing; need = λ _. 0 }
