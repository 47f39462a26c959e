-- Floats are lawful: each value is written in one way, and none is shorter.
use Rattle.std.specs.Prelude.{◌≡◌, ℕ, ◌*◌, ◌<◌, ◌^◌, true, T, List, length, Ok, refl, from_bits}
use Rattle.std.proofs.Common.{sym, ◌∙◌, ap, subst, arith}
use Rattle.std.specs.Float.Ieee.{fits, nan, top, to_bits}
use Rattle.std.specs.Float.{Float, binary32, binary64, Format as FloatFormat}
use Rattle.std.specs.Ordering.{is_eq, nan_last_cmp}
use Rattle.std.proofs.lemmas.Cmp.{eq_by_cmp_equiv}
use Rattle.std.proofs.lemmas.Float.{nan_last}
use lib.Ieee.Bits.{of_bits-to_bits, to_bits-lt}
use Rattle.bincode_base.specs.Setting.{Setting}
use Rattle.bincode_base.specs.declared.error.IntegerType.TheVariants.{U64}
use Rattle.bincode_spec.specs.Number.{number_of, digits_of}
use Rattle.bincode_spec.specs.Charge.{Step}
use Rattle.bincode_spec.specs.Format.{fixed_bytes, map_format, written_as}
use Rattle.bincode_spec.specs.Integers.{unsigned_integer, digits, IsWidth, Four, Eight}
use Rattle.bincode_spec.specs.Meaning.{Meaning, Real, IsReal}
use Rattle.bincode_spec.specs.Allowed.{AllowedWord, HasShortestWords}
use Rattle.bincode_spec.specs.Layers.Laws.{IsLawful, IsBalanced, Costs}
use Rattle.bincode_spec.specs.Floats.{float_width, with_fixed, float_bits, IsFloatWord, float, floats}
use Rattle.bincode_lemmas.specs.DigitLaws.{length-digits_of, digits_of-are_bytes}
use Rattle.bincode_lemmas.specs.IntegerLaws.{unsigned-lawful, unsigned-balanced, written-unsigned, word-charged}
use Rattle.bincode_lemmas.specs.FormatLaws.{map-lawful, rewritten-lawful}
use Rattle.bincode_lemmas.specs.Balance.{map-balanced, rewritten-holds}
use Rattle.bincode_lemmas.specs.NeedLaws.{Needs, map-needs, rewritten-needs, unsigned-needs}
use Rattle.bincode_lemmas.specs.ChargedLaws.{ChargesEnough, map-charged, rewritten-charged, unsigned-charged}
use Rattle.bincode_lemmas.specs.CostLaws.{map-costs, rewritten-costs, unsigned-costs}
use Rattle.bincode_lemmas.specs.CellLaws.{cell-has_word}
use Rattle.bincode_lemmas.specs.AllowedLaws.{alone-one_length, map-written}
use Rattle.bincode_lemmas.specs.SpelledLaws.{word-from_result}
use Rattle.bincode_lemmas.specs.FormLaws.{FormLaws, width-least}

pub float-is_width : (f : FloatFormat) → IsWidth (float_width f)
float-is_width binary32 = Four refl
float-is_width binary64 = Eight refl

-- the bits that are written for every NaN
pub nan-bits_32 : to_bits binary32 nan ≡ 0x7fc0_0000
unfolding to_bits
nan-bits_32 = refl

pub nan-bits_64 : to_bits binary64 nan ≡ 0x7ff8_0000_0000_0000
unfolding to_bits
nan-bits_64 = refl

fits_is : (f : FloatFormat) (v : Float) → fits f v ≡ true → T (fits f v)
fits_is f v h = subst T (sym h) tt

width_in : (f : FloatFormat) (n : ℕ) → n < 2 * top f → n < 256 ^ float_width f
width_in binary32 n h = h
width_in binary64 n h = h

-- the bits of a float fit its width
pub bits-fit : (f : FloatFormat) (v : Float) → fits f v ≡ true → to_bits f v < 256 ^ float_width f
bits-fit f v h = width_in f (to_bits f v) (to_bits-lt f v (fits_is f v h))

-- floats of one meaning are the same
pub real-one : (v w : Float) (m : Meaning) → IsReal v m → IsReal w m → v ≡ w
real-one v w m h k = let e : Real v ≡ Real w = sym h ∙ k in cc

-- so they are equal in the order that puts each NaN last
pub real-same : (v w : Float) (m : Meaning) → IsReal v m → IsReal w m → is_eq (nan_last_cmp v w) ≡ true
real-same v w m h k = subst (λ z. is_eq (nan_last_cmp v z) ≡ true) (real-one v w m h k) ((eq_by_cmp_equiv nan_last).refl v)

-- words

module _ (f : FloatFormat) (s : Setting) where
  of_bits_lawful : IsLawful (map_format (λ n. Real (from_bits f n)) (float_bits f s))
  unfolding unsigned_integer
  of_bits_lawful = map-lawful (λ n. Real (from_bits f n)) (float_bits f s) (unsigned-lawful U64 (float_width f) (with_fixed s) (float-is_width f))

  bits_written : (n : ℕ) → n < 256 ^ float_width f → (float_bits f s).Written (digits_of s.order (float_width f) n) n
  unfolding unsigned_integer
  bits_written n h = written-unsigned U64 (float_width f) n (with_fixed s) h

  written_word : (word : List ℕ) (m : Meaning) → IsFloatWord f s word m → (t : List Step) × (map_format (λ n. Real (from_bits f n)) (float_bits f s)).Word word m t
  written_word word m w =
      let n = to_bits f w.value in
      let e : Real (from_bits f n) ≡ m = ap Real (of_bits-to_bits f w.value (fits_is f w.value w.value_fits)) ∙ sym w.meaning_is in
      let p = of_bits_lawful.written_is_word (digits_of s.order (float_width f) n) (Real (from_bits f n))
      (map-written (λ n. Real (from_bits f n)) (float_bits f s) (digits_of s.order (float_width f) n) n (bits_written n (bits-fit f w.value w.value_fits))) in
      (p.0, rw (w.bytes_are, ← e) p.1)

  pub float-lawful : IsLawful (float f s)
  float-lawful = rewritten-lawful (IsFloatWord f s) (map_format (λ n. Real (from_bits f n)) (float_bits f s)) of_bits_lawful written_word

  pub float-balanced : IsBalanced (float f s)
  unfolding unsigned_integer
  float-balanced =
      rewritten-holds 0 0 (IsFloatWord f s) (map_format (λ n. Real (from_bits f n)) (float_bits f s))
      (map-balanced (λ n. Real (from_bits f n)) (float_bits f s) (unsigned-balanced U64 (float_width f) (with_fixed s)))

  pub float-needs : Needs (λ _. float_width f) (float f s)
  unfolding unsigned_integer
  float-needs =
      rewritten-needs (λ _. float_width f) (IsFloatWord f s) (map_format (λ n. Real (from_bits f n)) (float_bits f s))
      (map-needs (λ _. float_width f) (λ n. Real (from_bits f n)) (float_bits f s) (unsigned-needs U64 (float_width f) (with_fixed s)))

  pub float-charged : ChargesEnough (float f s)
  unfolding unsigned_integer
  float-charged =
      rewritten-charged (IsFloatWord f s) (map_format (λ n. Real (from_bits f n)) (float_bits f s))
      (map-charged (λ n. Real (from_bits f n)) (float_bits f s) (unsigned-charged U64 (float_width f) (with_fixed s) (width-least (float_width f) (float-is_width f))))

  pub float-costs : Costs (float_width f) (float_width f) (float f s)
  unfolding unsigned_integer
  float-costs =
      rewritten-costs (float_width f) (float_width f) (IsFloatWord f s) (map_format (λ n. Real (from_bits f n)) (float_bits f s))
      (map-costs (float_width f) (float_width f) (λ n. Real (from_bits f n)) (float_bits f s) (unsigned-costs U64 (float_width f) (with_fixed s)))

  -- the digits of the bits of a float are written for it, and nothing else is
  pub float-word : (v : Float) → fits f v ≡ true → AllowedWord (IsReal v) (float f s) (digits_of s.order (float_width f) (to_bits f v))
  unfolding written_as
  float-word v h = record { meaning = Real v; is_meant = refl; is_written = record { value = v; meaning_is = refl; value_fits = h; bytes_are = refl } }

  pub allowed-float : (v : Float) (bytes : List ℕ) → AllowedWord (IsReal v) (float f s) bytes → bytes ≡ digits_of s.order (float_width f) (to_bits f v)
  unfolding written_as
  allowed-float v bytes a =
      let w = a.is_written in
      w.bytes_are ∙ ap (λ z. digits_of s.order (float_width f) (to_bits f z)) (real-one w.value v a.meaning w.meaning_is a.is_meant)

  word_length : (bytes : List ℕ) (m : Meaning) (t : List Step) → (float f s).Word bytes m t → length bytes ≡ float_width f
  unfolding written_as digits fixed_bytes
  word_length bytes m t u =
      let p = word-from_result (λ n. Ok (Real (from_bits f n))) (float_bits f s) bytes m t u in
      let q = word-charged (float_width f) (digits s.order (float_width f)) bytes p.0 p.1 p.3 in
      let r = word-from_result (λ x. Ok (number_of s.order x)) (fixed_bytes (float_width f)) bytes p.0 q.0 q.1 in
      r.3.0

  -- a float is spelled
  pub float-spelled : (v : Float) → fits f v ≡ true → HasShortestWords (IsReal v) (float f s)
  float-spelled v h =
      let word = digits_of s.order (float_width f) (to_bits f v) in
      record {
        has_word = record { bytes = word; are_bytes = digits_of-are_bytes s.order (float_width f) (to_bits f v); is_allowed = float-word v h };
        one_length = alone-one_length _ word (allowed-float v);
        none_shorter = λ written bytes m t w k u e. omega (arith, ap length (allowed-float v written w), length-digits_of s.order (float_width f) (to_bits f v), word_length bytes m t u);
      }

fits_nan : (f : FloatFormat) → fits f nan ≡ true
unfolding fits
fits_nan f = refl

pub floats-laws : {A : Type 0} (f : FloatFormat) (get : A → Float) → FormLaws (floats f get)
floats-laws f get = record {
  lawful = float-lawful f;
  balanced = float-balanced f;
  spelled = λ s v h. float-spelled f s (get v) h;
  one_meaning = λ v w m n h k l. l ∙ sym k ∙ h;
  some_word = λ s. cell-has_word (float f s) (float-lawful f s) _ (float-spelled f s nan (fits_nan f)).has_word;
  needs = float-needs f;
  charges_enough = float-charged f;
}
