-- The forms of scalars are lawful: each value in bounds is written in one way, which is the shortest.
use Rattle.std.specs.Prelude.{◌≡◌, ℕ, ◌≤◌, ◌<◌, ◌^◌, ℤ, pos, unsigned_abs, FitsSigned, true}
use Rattle.std.specs.Int.{Width, w8, w16, w32, w64, w128}
use Rattle.std.proofs.Common.{sym, ◌∙◌, arith}
use Rattle.bincode_base.specs.declared.error.IntegerType.{IntegerType}
use Rattle.bincode_base.specs.declared.error.IntegerType.TheVariants.{U8, I8}
use Rattle.bincode_base.specs.Setting.{Setting}
use Rattle.bincode_spec.specs.Format.{Format, map_format}
use Rattle.bincode_spec.specs.Layers.Laws.{IsLawful, IsBalanced}
use Rattle.bincode_lemmas.specs.FormatLaws.{map-lawful}
use Rattle.bincode_lemmas.specs.Balance.{map-balanced}
use Rattle.bincode_spec.specs.Integers.{unsigned_integer, signed_integer, unsigned_byte, signed_byte}
use Rattle.bincode_spec.specs.Integers.{IsWidth, Two, Four, Eight, Sixteen, width_in_bytes}
use Rattle.bincode_lemmas.specs.IntegerLaws.{unsigned-lawful, unsigned-balanced, signed-lawful}
use Rattle.bincode_lemmas.specs.IntegerLaws.{signed-balanced, unsigned_byte-lawful, unsigned_byte-balanced, signed_byte-lawful, signed_byte-balanced}
use Rattle.bincode_spec.specs.Meaning.{Meaning, Number, IsNumber}
use Rattle.bincode_spec.specs.Words.{truth, truth_of, not_zero_of}
use Rattle.bincode_lemmas.specs.WordsLaws.{not_zero-lawful, not_zero-balanced, truth-lawful, truth-balanced}
use Rattle.bincode_spec.specs.Allowed.{HasShortestWords}
use Rattle.bincode_spec.specs.Cells.{HasWord}
use Rattle.bincode_spec.specs.Forms.{Form, numbers, numbers_not_zero, bytes, unsigned_numbers, signed_bytes, signed_numbers}
use Rattle.bincode_spec.specs.Forms.{bytes_not_zero, unsigned_not_zero, signed_bytes_not_zero, signed_not_zero, truths}
use Rattle.bincode_lemmas.specs.NeedLaws.{Needs, map-needs, test-needs, unsigned-needs, signed-needs, unsigned_byte-needs, signed_byte-needs}
use Rattle.bincode_lemmas.specs.ChargedLaws.{ChargesEnough, map-charged, test-charged, unsigned-charged, signed-charged, unsigned_byte-charged, signed_byte-charged}
use Rattle.bincode_lemmas.specs.CellLaws.{cell-has_word}
use Rattle.bincode_lemmas.specs.AllowedLaws.{natural-one}
use Rattle.bincode_lemmas.specs.SpelledLaws.{unsigned-spelled, byte-spelled, signed-spelled, signed_byte-spelled, truth-spelled, number-not_zero}

pub record FormLaws {A : Type 0} (form : Form A) : Type 0 where
  pub lawful : (s : Setting) → IsLawful (form.format s)
  pub balanced : (s : Setting) → IsBalanced (form.format s)
  pub spelled : (s : Setting) (v : A) → form.Bounds v → HasShortestWords (form.means v) (form.format s)
  pub one_meaning : (v w : A) (m n : Meaning) → form.means v m → form.means w m → form.means w n → form.means v n
  pub some_word : (s : Setting) → HasWord (form.format s)
  pub needs : (s : Setting) → Needs form.need (form.format s)
  pub charges_enough : (s : Setting) → ChargesEnough (form.format s)

-- `FormLaws` of integers, before they are mapped to meanings
pub record Numerals {A : Type 0} (width : ℕ) (Bounds : A → Type 0) (integer : A → ℤ) (F : Setting → Format A) : Type 0 where
  pub lawful : (s : Setting) → IsLawful (F s)
  pub balanced : (s : Setting) → IsBalanced (F s)
  pub spelled : (s : Setting) (n : A) → Bounds n → HasShortestWords (IsNumber (integer n)) (map_format (λ k. Number (integer k)) (F s))
  pub needs : (s : Setting) → Needs (λ _. width) (F s)
  pub charges_enough : (s : Setting) → ChargesEnough (F s)

pub width-least : (width : ℕ) → IsWidth width → 2 ≤ width
width-least width (Two e) = omega arith
width-least width (Four e) = omega arith
width-least width (Eight e) = omega arith
width-least width (Sixteen e) = omega arith

pub width-above_one : (width : ℕ) → IsWidth width → 1 < 256 ^ width
width-above_one width (Two e) = rw e (omega arith)
width-above_one width (Four e) = rw e (omega arith)
width-above_one width (Eight e) = rw e (omega arith)
width-above_one width (Sixteen e) = rw e (omega arith)

pub signed-above_one : (w : Width) → FitsSigned w (pos 1)
signed-above_one w8 = omega arith
signed-above_one w16 = omega arith
signed-above_one w32 = omega arith
signed-above_one w64 = omega arith
signed-above_one w128 = omega arith

pub byte-numerals : Numerals 1 (λ n. n < 2 ^ 8) pos (λ s. unsigned_byte)
byte-numerals = record { lawful = λ s. unsigned_byte-lawful; balanced = λ s. unsigned_byte-balanced; spelled = λ s n h. byte-spelled n h; needs = λ s. unsigned_byte-needs; charges_enough = λ s. unsigned_byte-charged }

pub unsigned-numerals : (name : IntegerType) (width : ℕ) → IsWidth width → Numerals width (λ n. n < 256 ^ width) pos (unsigned_integer name width)
unsigned-numerals name width w = record {
  lawful = λ s. unsigned-lawful name width s w;
  balanced = λ s. unsigned-balanced name width s;
  spelled = λ s n h. unsigned-spelled name width n s h;
  needs = unsigned-needs name width;
  charges_enough = λ s. unsigned-charged name width s (width-least width w);
}

pub signed_byte-numerals : Numerals 1 (FitsSigned w8) (λ z. z) (λ s. signed_byte)
signed_byte-numerals = record { lawful = λ s. signed_byte-lawful; balanced = λ s. signed_byte-balanced; spelled = λ s z h. signed_byte-spelled z h; needs = λ s. signed_byte-needs; charges_enough = λ s. signed_byte-charged }

pub signed-numerals : (name : IntegerType) (w : Width) → IsWidth (width_in_bytes w) → Numerals (width_in_bytes w) (FitsSigned w) (λ z. z) (signed_integer name (width_in_bytes w))
signed-numerals name w more = record {
  lawful = λ s. signed-lawful name (width_in_bytes w) s more;
  balanced = λ s. signed-balanced name (width_in_bytes w) s;
  spelled = λ s z h. signed-spelled name w z s more h;
  needs = signed-needs name (width_in_bytes w);
  charges_enough = λ s. signed-charged name (width_in_bytes w) s (width-least (width_in_bytes w) more);
}

module _ {A B : Type 0} (width : ℕ) (integer : A → ℤ) (Bounds : A → Type 0) (F : Setting → Format A) (get : B → A) (p : Numerals width Bounds integer F) (some : A) (bounded : Bounds some) where
  numbers_laws : FormLaws (numbers width integer Bounds F get)
  numbers_laws = record {
    lawful = λ s. map-lawful _ _ (p.lawful s);
    balanced = λ s. map-balanced _ _ (p.balanced s);
    spelled = λ s v h. p.spelled s (get v) h;
    one_meaning = λ v w m n h k l. l ∙ sym k ∙ h;
    some_word = λ s. cell-has_word _ (map-lawful _ _ (p.lawful s)) _ (p.spelled s some bounded).has_word;
    needs = λ s. map-needs _ _ _ (p.needs s);
    charges_enough = λ s. map-charged _ _ (p.charges_enough s);
  }

  numbers_not_zero_laws : ((a b : A) → integer a ≡ integer b → a ≡ b) → (size : A → ℕ) → 0 < size some → (name : IntegerType) → FormLaws (numbers_not_zero width integer Bounds F get size name)
  numbers_not_zero_laws one size above name = record {
    lawful = λ s. map-lawful _ _ (not_zero-lawful size name (F s) (p.lawful s));
    balanced = λ s. map-balanced _ _ (not_zero-balanced size name (F s) (p.balanced s));
    spelled = λ s v h. number-not_zero integer one size name (F s) (get v) h.1 (p.spelled s (get v) h.0);
    one_meaning = λ v w m n h k l. l ∙ sym k ∙ h;
    some_word = λ s. cell-has_word _ (map-lawful _ _ (not_zero-lawful size name (F s) (p.lawful s))) _ (number-not_zero integer one size name (F s) some above (p.spelled s some bounded)).has_word;
    needs = λ s. map-needs _ _ _ (test-needs _ (F s) (λ a. not_zero_of name (size a) a) (p.needs s));
    charges_enough = λ s. map-charged _ _ (test-charged (F s) (λ a. not_zero_of name (size a) a) (p.charges_enough s));
  }

pub bytes-laws : FormLaws bytes
bytes-laws = numbers_laws 1 pos (λ n. n < 2 ^ 8) (λ s. unsigned_byte) (λ n. n) byte-numerals 1 (omega arith)

pub unsigned_numbers-laws : (name : IntegerType) (width : ℕ) → IsWidth width → FormLaws (unsigned_numbers name width)
unsigned_numbers-laws name width w = numbers_laws width pos (λ n. n < 256 ^ width) (unsigned_integer name width) (λ n. n) (unsigned-numerals name width w) 1 (width-above_one width w)

pub signed_bytes-laws : FormLaws signed_bytes
signed_bytes-laws = numbers_laws 1 (λ z. z) (FitsSigned w8) (λ s. signed_byte) (λ z. z) signed_byte-numerals (pos 1) (omega arith)

pub signed_numbers-laws : (name : IntegerType) (w : Width) → IsWidth (width_in_bytes w) → FormLaws (signed_numbers name w)
signed_numbers-laws name w more = numbers_laws (width_in_bytes w) (λ z. z) (FitsSigned w) (signed_integer name (width_in_bytes w)) (λ z. z) (signed-numerals name w more) (pos 1) (signed-above_one w)

module _ {A : Type 0} where
  pub bytes_not_zero-laws : (get : A → ℕ) → FormLaws (bytes_not_zero get)
  bytes_not_zero-laws get = numbers_not_zero_laws 1 pos (λ n. n < 2 ^ 8) (λ s. unsigned_byte) get byte-numerals 1 (omega arith) natural-one (λ n. n) (omega arith) U8

  pub unsigned_not_zero-laws : (get : A → ℕ) (name : IntegerType) (width : ℕ) → IsWidth width → FormLaws (unsigned_not_zero get name width)
  unsigned_not_zero-laws get name width w =
      numbers_not_zero_laws width pos (λ n. n < 256 ^ width) (unsigned_integer name width) get (unsigned-numerals name width w) 1 (width-above_one width w) natural-one (λ n. n) (omega arith) name

  pub signed_bytes_not_zero-laws : (get : A → ℤ) → FormLaws (signed_bytes_not_zero get)
  signed_bytes_not_zero-laws get = numbers_not_zero_laws 1 (λ z. z) (FitsSigned w8) (λ s. signed_byte) get signed_byte-numerals (pos 1) (omega arith) (λ a b e. e) unsigned_abs (omega arith) I8

  pub signed_not_zero-laws : (get : A → ℤ) (name : IntegerType) (w : Width) → IsWidth (width_in_bytes w) → FormLaws (signed_not_zero get name w)
  signed_not_zero-laws get name w more =
      numbers_not_zero_laws (width_in_bytes w) (λ z. z) (FitsSigned w) (signed_integer name (width_in_bytes w)) get (signed-numerals name w more) (pos 1) (signed-above_one w) (λ a b e. e) unsigned_abs (omega arith) name

pub truths-laws : FormLaws truths
truths-laws = record {
  lawful = λ s. truth-lawful;
  balanced = λ s. truth-balanced;
  spelled = λ s v h. truth-spelled v;
  one_meaning = λ v w m n h k l. l ∙ sym k ∙ h;
  some_word = λ s. cell-has_word truth truth-lawful _ (truth-spelled true).has_word;
  needs = λ s. test-needs _ unsigned_byte truth_of unsigned_byte-needs;
  charges_enough = λ s. test-charged unsigned_byte truth_of unsigned_byte-charged;
}
