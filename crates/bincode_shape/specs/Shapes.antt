-- Shapes and values: the format of a shape, the meaning of a value, and which values fit a shape.
use Rattle.std.specs.Prelude.{◌≡◌, ℕ, zero, suc, ◌+◌, ◌*◌, ◌^◌, nat_lt, ℤ, pos, negsuc, max, Bool, true, false, ◌&&◌, ◌==◌, List, [], ◌∷◌, length, string_bytes}
use Rattle.std.specs.List.{list_all}
use Rattle.bincode_base.specs.declared.error.IntegerType.TheVariants as integers
use Rattle.bincode_base.specs.Setting.{Setting}
use Rattle.bincode_spec.specs.Fault.{EmptyEnum}
use Rattle.bincode_spec.specs.Format.{Format, fail}
use Rattle.bincode_spec.specs.Integers.{unsigned_integer, signed_integer, unsigned_byte, signed_byte}
use Rattle.bincode_spec.specs.Meaning.{Meaning, Truth, Number, Character, Bytes, Nothing, Choice, list_meaning}
use Rattle.bincode_spec.specs.Words.{natural_number, integer_number, tag, nothing, tuple, truth, Variant, tag_then_part, array, list, text, character}
use Rattle.bincode_shape.specs.declared.shape.Shape as shapes
use Rattle.bincode_shape.specs.declared.shape.Shape.{Shape, Row_of-Shape, end_of-Shape, more_of-Shape}
use Rattle.bincode_shape.specs.declared.shape.Value as values
use Rattle.bincode_shape.specs.declared.shape.Value.{Value, Row_of-Value, end_of-Value, more_of-Value, items-the_row-Value, None', Some'}

-- an element claims at least one byte
abbrev pub share : ℕ → ℕ
share claim = max claim 1

-- the tag of an option is a byte
abbrev pub byte_tag : Setting → Format ℕ
byte_tag s = unsigned_byte

-- the variants of an option
abbrev pub option_variants : (Setting → Format Meaning) → List Variant
option_variants F = (0, λ s. nothing) ∷ (1, F) ∷ []

-- without variants there is no word
abbrev pub one_of : List Variant → Setting → Format Meaning
one_of [] s = fail EmptyEnum
one_of (variant ∷ others) s = tag_then_part tag (variant ∷ others) s

-- the formats of parts under a setting
abbrev pub at : Setting → List (Setting → Format Meaning) → List (Format Meaning)
at s [] = []
at s (F ∷ others) = F s ∷ at s others

-- variants with consecutive tags
abbrev pub numbered_variants : ℕ → List (Setting → Format Meaning) → List Variant
numbered_variants n [] = []
numbered_variants n (F ∷ others) = (n, F) ∷ numbered_variants (n + 1) others

abbrev mutual
  -- the words of a shape
  pub format_of : Shape → Setting → Format Meaning
  format_of shapes.Unit s = nothing
  format_of shapes.Bool s = truth
  format_of shapes.Char s = character
  format_of shapes.Text s = text s
  format_of shapes.U8 s = natural_number unsigned_byte
  format_of shapes.U16 s = natural_number (unsigned_integer integers.U16 2 s)
  format_of shapes.U32 s = natural_number (unsigned_integer integers.U32 4 s)
  format_of shapes.U64 s = natural_number (unsigned_integer integers.U64 8 s)
  format_of shapes.U128 s = natural_number (unsigned_integer integers.U128 16 s)
  format_of shapes.Usize s = natural_number (unsigned_integer integers.Usize 8 s)
  format_of shapes.I8 s = integer_number signed_byte
  format_of shapes.I16 s = integer_number (signed_integer integers.I16 2 s)
  format_of shapes.I32 s = integer_number (signed_integer integers.I32 4 s)
  format_of shapes.I64 s = integer_number (signed_integer integers.I64 8 s)
  format_of shapes.I128 s = integer_number (signed_integer integers.I128 16 s)
  format_of shapes.Isize s = integer_number (signed_integer integers.Isize 8 s)
  format_of (shapes.Seq' claim p element) s = list s (share claim) (format_of element s)
  format_of (shapes.Array' len claim p element) s = array len (share claim) (format_of element s)
  format_of (shapes.Tuple' v parts) s = tuple (at s (formats_of parts))
  format_of (shapes.Optional' p part) s = tag_then_part byte_tag (option_variants (format_of part)) s
  format_of (shapes.Choice' v parts) s = one_of (numbered_variants 0 (formats_of parts)) s

  pub formats_of : {m : _} → Row_of-Shape m → List (Setting → Format Meaning)
  formats_of end_of-Shape = []
  formats_of (more_of-Shape part others) = format_of part ∷ formats_of others

-- decoding allocates for a text, and for what has parts
abbrev pub TakesMemory : Shape → Type 0
TakesMemory shapes.Text = Unit {0}
TakesMemory (shapes.Seq' _ _ _) = Unit {0}
TakesMemory (shapes.Array' _ _ _ _) = Unit {0}
TakesMemory (shapes.Tuple' _ _) = Unit {0}
TakesMemory (shapes.Optional' _ _) = Unit {0}
TakesMemory (shapes.Choice' _ _) = Unit {0}
TakesMemory _ = ⊥

abbrev mutual
  -- what a value means
  pub meaning : Value → Meaning
  meaning values.Unit = Nothing
  meaning (values.Bool b) = Truth b
  meaning (values.Char c) = Character c
  meaning (values.Text t) = Bytes (string_bytes t)
  meaning (values.Unsigned n) = Number (pos n)
  meaning (values.Signed z) = Number z
  meaning (values.List' v items) = list_meaning (meanings_of items)
  meaning (values.Optional' None') = Choice 0 Nothing
  meaning (values.Optional' (Some' p part)) = Choice 1 (meaning part)
  meaning (values.Choice' n p part) = Choice n (meaning part)

  pub meanings_of : {m : _} → Row_of-Value m → List Meaning
  meanings_of end_of-Value = []
  meanings_of (more_of-Value item others) = meaning item ∷ meanings_of others

-- which values fit

abbrev pub is_unit : Value → Bool
is_unit values.Unit = true
is_unit _ = false

abbrev pub is_truth : Value → Bool
is_truth (values.Bool _) = true
is_truth _ = false

abbrev pub is_character : Value → Bool
is_character (values.Char _) = true
is_character _ = false

abbrev pub is_text : Value → Bool
is_text (values.Text _) = true
is_text _ = false

-- an unsigned number of `width` bytes
abbrev pub is_unsigned : ℕ → Value → Bool
is_unsigned width (values.Unsigned n) = nat_lt n (256 ^ width)
is_unsigned width _ = false

-- twice its size is below 256^width
abbrev pub has_sign_bit : ℕ → ℤ → Bool
has_sign_bit width (pos n) = nat_lt (2 * n) (256 ^ width)
has_sign_bit width (negsuc n) = nat_lt (2 * n) (256 ^ width)

abbrev pub is_signed : ℕ → Value → Bool
is_signed width (values.Signed z) = has_sign_bit width z
is_signed width _ = false

-- a list of items that pass
abbrev pub is_list : (List Value → Bool) → Value → Bool
is_list test (values.List' v items) = test (items-the_row-Value _ items)
is_list test _ = false

-- nothing, or a part that passes
abbrev pub is_optional : (Value → Bool) → Value → Bool
is_optional test (values.Optional' None') = true
is_optional test (values.Optional' (Some' p part)) = test part
is_optional test _ = false

-- a variant, whose part passes the test of its tag
abbrev pub is_choice : (ℕ → Value → Bool) → Value → Bool
is_choice test (values.Choice' n p part) = test n part
is_choice test _ = false

-- as many items as tests, each of which passes its own
abbrev pub each_passes : List (Value → Bool) → List Value → Bool
each_passes [] [] = true
each_passes [] (item ∷ items) = false
each_passes (test ∷ tests) [] = false
each_passes (test ∷ tests) (item ∷ items) = test item && each_passes tests items

-- the value passes the test of this number, if there is one
abbrev pub picked_passes : List (Value → Bool) → ℕ → Value → Bool
picked_passes [] n v = false
picked_passes (test ∷ tests) zero v = test v
picked_passes (test ∷ tests) (suc n) v = picked_passes tests n v

abbrev mutual
  -- the value has the shape
  pub fits : Shape → Value → Bool
  fits shapes.Unit v = is_unit v
  fits shapes.Bool v = is_truth v
  fits shapes.Char v = is_character v
  fits shapes.Text v = is_text v
  fits shapes.U8 v = is_unsigned 1 v
  fits shapes.U16 v = is_unsigned 2 v
  fits shapes.U32 v = is_unsigned 4 v
  fits shapes.U64 v = is_unsigned 8 v
  fits shapes.U128 v = is_unsigned 16 v
  fits shapes.Usize v = is_unsigned 8 v
  fits shapes.I8 v = is_signed 1 v
  fits shapes.I16 v = is_signed 2 v
  fits shapes.I32 v = is_signed 4 v
  fits shapes.I64 v = is_signed 8 v
  fits shapes.I128 v = is_signed 16 v
  fits shapes.Isize v = is_signed 8 v
  fits (shapes.Seq' claim p element) v = is_list (list_all (fits element)) v
  fits (shapes.Array' len claim p element) v = is_list (λ items. (length items == len) && list_all (fits element) items) v
  fits (shapes.Tuple' s parts) v = is_list (each_passes (tests_of parts)) v
  fits (shapes.Optional' p part) v = is_optional (fits part) v
  fits (shapes.Choice' s parts) v = is_choice (picked_passes (tests_of parts)) v

  pub tests_of : {m : _} → Row_of-Shape m → List (Value → Bool)
  tests_of end_of-Shape = []
  tests_of (more_of-Shape part others) = fits part ∷ tests_of others

-- the value has the shape and this meaning
abbrev pub IsImage : Shape → Meaning → Value → Type 0
IsImage shape m v = (fits shape v ≡ true) × (m ≡ meaning v)

-- the meaning is the value's
abbrev pub IsMeant : Value → Meaning → Type 0
IsMeant v m = m ≡ meaning v
