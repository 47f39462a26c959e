-- How integers wider than one byte are encoded.
use Rattle.std.specs.Prelude.{ℕ, ◌<◌, ◌^◌, ℤ, pos, unsigned_abs, List, nat_lt, nat_le, if◌then◌else◌, [], ◌∷◌}
use Rattle.bincode_base.specs.declared.config.Endianness.{Endianness}
use Rattle.bincode_base.specs.declared.config.IntEncoding.{IntEncoding}
use Rattle.bincode_base.specs.declared.error.IntegerType.{IntegerType}
use Rattle.bincode_base.specs.Setting.{Setting}
use Rattle.bincode_spec.specs.Number.{FitsIn, digits_of}
use Rattle.bincode_spec.specs.Format.{Format, map_format}
use Rattle.bincode_spec.specs.Integers.{number_by, integer_by, number_for, unsigned_tag, signed_tag, unsigned_integer, signed_integer, spelling, digits}
use Rattle.bincode_base.specs.declared.config.IntEncoding.TheVariants.{Fixed, Variable}
use Rattle.bincode_base.specs.declared.error.IntegerType.TheVariants.{I8, I16, I32, I64, I128, Isize}

-- by the name of the type that is read
abbrev pub tag_types : IntegerType → ℕ → IntegerType
tag_types I8 = signed_tag
tag_types I16 = signed_tag
tag_types I32 = signed_tag
tag_types I64 = signed_tag
tag_types I128 = signed_tag
tag_types Isize = signed_tag
tag_types _ = unsigned_tag

-- the pieces in which it is written: the tag, then the digits
abbrev pub shortest_pieces : Endianness → ℕ → List (List ℕ)
shortest_pieces order n =
    if nat_le n 250 then (n ∷ []) ∷ []
    else if nat_lt n (2 ^ 16) then (251 ∷ []) ∷ digits_of order 2 n ∷ []
    else if nat_lt n (2 ^ 32) then (252 ∷ []) ∷ digits_of order 4 n ∷ []
    else if nat_lt n (2 ^ 64) then (253 ∷ []) ∷ digits_of order 8 n ∷ []
    else (254 ∷ []) ∷ digits_of order 16 n ∷ []

-- the pieces in which it is written
abbrev pub spelling_pieces : IntEncoding → Endianness → ℕ → ℕ → List (List ℕ)
spelling_pieces Fixed order width n = digits_of order width n ∷ []
spelling_pieces Variable order width n = shortest_pieces order n

-- the type's name in faults, its format, what is read of a word after the charge, and the word that is written for a
-- value, in pieces; the integer of a value, its absolute value, and which values the type has
pub record Spelling (A : Type 0) : Type 1 where
  pub name : IntegerType
  pub words : Setting → Format A
  pub read_by : Endianness → IntEncoding → Format A
  pub written : Endianness → IntEncoding → A → List ℕ
  pub pieces : Endianness → IntEncoding → A → List (List ℕ)
  pub integer : A → ℤ
  pub size : A → ℕ
  pub Fits : A → Type 0

-- of unsigned numbers of `width` bytes
abbrev pub unsigned_spelling : IntegerType → ℕ → Spelling ℕ
unsigned_spelling name width = record {
  name = name;
  words = unsigned_integer name width;
  read_by = λ order encoding. number_by unsigned_tag name order width encoding;
  written = λ order encoding. spelling encoding order width;
  pieces = λ order encoding. spelling_pieces encoding order width;
  integer = pos;
  size = λ n. n;
  Fits = λ n. n < 256 ^ width;
}

-- of signed numbers of `width` bytes
abbrev pub signed_spelling : IntegerType → ℕ → Spelling ℤ
signed_spelling name width = record {
  name = name;
  words = signed_integer name width;
  read_by = λ order encoding. map_format (integer_by width encoding) (number_by signed_tag name order width encoding);
  written = λ order encoding z. spelling encoding order width (number_for width encoding z);
  pieces = λ order encoding z. spelling_pieces encoding order width (number_for width encoding z);
  integer = λ z. z;
  size = unsigned_abs;
  Fits = FitsIn width;
}
