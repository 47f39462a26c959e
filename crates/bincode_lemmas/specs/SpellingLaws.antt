-- The laws of the spellings of integers wider than one byte.
use Rattle.std.specs.Prelude.{◌≡◌, ℕ, unsigned_abs, refl}
use Rattle.std.proofs.Common.{ap, append-nil}
use Rattle.bincode_base.specs.declared.config.Endianness.{Endianness}
use Rattle.bincode_base.specs.declared.config.IntEncoding.{IntEncoding}
use Rattle.bincode_base.specs.declared.config.IntEncoding.TheVariants.{Fixed, Variable}
use Rattle.bincode_base.specs.declared.error.IntegerType.{IntegerType}
use Rattle.bincode_base.specs.Setting.{Setting}
use Rattle.bincode_spec.specs.Number.{digits_of}
use Rattle.bincode_spec.specs.Format.{map_format, charge_then}
use Rattle.bincode_spec.specs.Layers.Pieces.{concat_pieces}
use Rattle.bincode_spec.specs.Integers.{number_by, integer_by, number_for, unsigned_tag, signed_tag, unsigned_integer, signed_integer, spelling}
use Rattle.bincode_spec.specs.Layers.Spelling.{spelling_pieces, Spelling, unsigned_spelling, signed_spelling}
use Rattle.bincode_spec.specs.Integers.{IsWidth}
use Rattle.bincode_lemmas.specs.IntegerLaws.{shortest-pieces, written-unsigned, written-signed}

-- integers that are equal are of one value; a word is charged before it is read; the pieces are the word; and what is
-- written of a value that fits is a word
pub record SpellingLaws (width : ℕ) {A : Type 0} (spelling : Spelling A) : Type 1 where
  pub one : (a b : A) → spelling.integer a ≡ spelling.integer b → a ≡ b
  pub charged_first : (s : Setting) → spelling.words s ≡ charge_then width (spelling.read_by s.order s.encoding)
  pub pieces_join : (order : Endianness) (encoding : IntEncoding) (a : A) → concat_pieces (spelling.pieces order encoding a) ≡ spelling.written order encoding a
  pub is_written : (s : Setting) (a : A) → spelling.Fits a → (spelling.words s).Written (spelling.written s.order s.encoding a) a

pub joined-spelling : (order : Endianness) (width : ℕ) (encoding : IntEncoding) (n : ℕ) → concat_pieces (spelling_pieces encoding order width n) ≡ spelling encoding order width n
joined-spelling order width Fixed n = append-nil (digits_of order width n)
joined-spelling order width Variable n = shortest-pieces order n

pub unsigned-charged : (name : IntegerType) (width : ℕ) (s : Setting) → unsigned_integer name width s ≡ charge_then width (number_by unsigned_tag name s.order width s.encoding)
unfolding unsigned_integer
unsigned-charged name width s = refl

pub signed-charged : (name : IntegerType) (width : ℕ) (s : Setting) →
    signed_integer name width s ≡ charge_then width (map_format (integer_by width s.encoding) (number_by signed_tag name s.order width s.encoding))
unfolding signed_integer
signed-charged name width s = refl

-- of unsigned numbers
pub unsigned_spelling-laws : (name : IntegerType) (width : ℕ) → SpellingLaws width (unsigned_spelling name width)
unsigned_spelling-laws name width = record {
  one = λ a b e. ap unsigned_abs e;
  charged_first = unsigned-charged name width;
  pieces_join = λ order encoding. joined-spelling order width encoding;
  is_written = λ s n h. written-unsigned name width n s h;
}

-- of signed numbers
pub signed_spelling-laws : (name : IntegerType) (width : ℕ) → IsWidth width → SpellingLaws width (signed_spelling name width)
signed_spelling-laws name width w = record {
  one = λ a b e. e;
  charged_first = signed-charged name width;
  pieces_join = λ order encoding z. joined-spelling order width encoding (number_for width encoding z);
  is_written = λ s z h. written-signed name width z s w h;
}
