-- The formats of integers.
use Rattle.std.specs.Int.{Width, w8, w16, w32, w64, w128}
use Rattle.std.specs.Prelude.{◌≡◌, ℕ, ◌<◌, ◌^◌, nat_lt, nat_le, ◌==◌, if◌then◌else◌, ◌&&◌, ℤ, List, [], ◌∷◌}
use Rattle.bincode_base.specs.declared.config.Endianness.{Endianness}
use Rattle.bincode_base.specs.declared.config.IntEncoding.{IntEncoding}
use Rattle.bincode_base.specs.declared.config.IntEncoding.TheVariants.{Fixed, Variable}
use Rattle.bincode_base.specs.declared.error.IntegerType.{IntegerType}
use Rattle.bincode_base.specs.declared.error.IntegerType.TheVariants.{U32, U64, U128, I32, I64, I128, Reserved}
use Rattle.bincode_base.specs.Setting.{Setting}
use Rattle.bincode_spec.specs.Number.{number_of, digits_of, zigzag, unzigzag, two_complement, from_two_complement}
use Rattle.bincode_spec.specs.Fault.{Fault, InvalidInteger}
use Rattle.bincode_spec.specs.Format.{Format, pure, fail, fixed_bytes, ◌>>=◌, map_format, written_as, charge_then}

-- `width` digits in the byte order
unfoldable pub digits : Endianness → ℕ → Format ℕ
digits order width = written_as (λ bytes n. (n < 256 ^ width) × (bytes ≡ digits_of order width n)) (map_format (number_of order) (fixed_bytes width))

-- the first of some bytes
abbrev pub first_of : List ℕ → ℕ
first_of [] = 0
first_of (b ∷ _) = b

-- one byte, as it is
unfoldable pub byte : Format ℕ
byte = map_format first_of (fixed_bytes 1)

-- the meaning of a first byte: up to 250 the number itself, from 251 on a tag for a number of digits
pub data FirstByte : Type 0 where
  Itself : FirstByte
  Before : ℕ → FirstByte
  TooWide : FirstByte

-- by the width of the type
abbrev pub first_byte : ℕ → ℕ → FirstByte
first_byte width first =
    if nat_le first 250 then Itself
    else if first == 251 then Before 2
    else if (first == 252) && nat_le 4 width then Before 4
    else if (first == 253) && nat_le 8 width then Before 8
    else if (first == 254) && nat_le 16 width then Before 16
    else TooWide

-- what follows the first byte
abbrev pub number_after : Endianness → Fault → ℕ → FirstByte → Format ℕ
number_after order why first Itself = pure first
number_after order why first (Before n) = digits order n
number_after order why first TooWide = fail why

-- the types that tags stand for in faults
abbrev pub unsigned_tag : ℕ → IntegerType
unsigned_tag tag = if tag == 252 then U32 else if tag == 253 then U64 else if tag == 254 then U128 else Reserved

abbrev pub signed_tag : ℕ → IntegerType
signed_tag tag = if tag == 252 then I32 else if tag == 253 then I64 else if tag == 254 then I128 else Reserved

-- the shortest varint: a number up to 250 is its byte, a larger one has the first tag that is wide enough
abbrev pub shortest_word : Endianness → ℕ → List ℕ
shortest_word order n =
    if nat_le n 250 then n ∷ []
    else if nat_lt n (2 ^ 16) then 251 ∷ digits_of order 2 n
    else if nat_lt n (2 ^ 32) then 252 ∷ digits_of order 4 n
    else if nat_lt n (2 ^ 64) then 253 ∷ digits_of order 8 n
    else 254 ∷ digits_of order 16 n

-- a number of `width` bytes as a tag and digits, however small it is; faults name the tags
unfoldable pub varint : (ℕ → IntegerType) → IntegerType → Endianness → ℕ → Format ℕ
varint tags name order width = written_as (λ bytes n. (n < 256 ^ width) × (bytes ≡ shortest_word order n)) (byte >>= λ first. number_after order (InvalidInteger name (tags first)) first (first_byte width first))

-- a number of `width` bytes in an encoding
abbrev pub number_by : (ℕ → IntegerType) → IntegerType → Endianness → ℕ → IntEncoding → Format ℕ
number_by tags name order width Fixed = digits order width
number_by tags name order width Variable = varint tags name order width

-- an unsigned integer wider than one byte
unfoldable pub unsigned_integer : IntegerType → ℕ → Setting → Format ℕ
unsigned_integer name width setting = charge_then width (number_by unsigned_tag name setting.order width setting.encoding)

-- the integer that a number stands for
abbrev pub integer_by : ℕ → IntEncoding → ℕ → ℤ
integer_by width Fixed n = from_two_complement width n
integer_by width Variable n = unzigzag n

-- the number that stands for an integer
abbrev pub number_for : ℕ → IntEncoding → ℤ → ℕ
number_for width Fixed z = two_complement width z
number_for width Variable z = zigzag z

-- a signed integer wider than one byte
unfoldable pub signed_integer : IntegerType → ℕ → Setting → Format ℤ
signed_integer name width setting = charge_then width (map_format (integer_by width setting.encoding) (number_by signed_tag name setting.order width setting.encoding))

-- numbers of one byte, under every setting
unfoldable pub unsigned_byte : Format ℕ
unsigned_byte = charge_then 1 byte

unfoldable pub signed_byte : Format ℤ
signed_byte = charge_then 1 (map_format (from_two_complement 1) byte)

-- the word that is written for an unsigned number of `width` bytes
abbrev pub spelling : IntEncoding → Endianness → ℕ → ℕ → List ℕ
spelling Fixed order width n = digits_of order width n
spelling Variable order width n = shortest_word order n

-- the widths of integers wider than one byte
pub data IsWidth (width : ℕ) : Type 0 where
  Two : width ≡ 2 → IsWidth width
  Four : width ≡ 4 → IsWidth width
  Eight : width ≡ 8 → IsWidth width
  Sixteen : width ≡ 16 → IsWidth width

-- the width in bytes of a signed type
abbrev pub width_in_bytes : Width → ℕ
width_in_bytes w8 = 1
width_in_bytes w16 = 2
width_in_bytes w32 = 4
width_in_bytes w64 = 8
width_in_bytes w128 = 16
