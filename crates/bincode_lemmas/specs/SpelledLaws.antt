-- Numbers and truth values are spelled: their words have one length, and none is shorter. Tuples are, if their parts
-- are.
use Rattle.std.specs.Prelude.{◌≡◌, ℕ, ◌<◌, ◌≤◌, ◌^◌, ℤ, pos, FitsSigned, Bool, true, false, Result, Ok, Err, List, [], ◌∷◌, ◌++◌, length, refl}
use Rattle.std.specs.List.{All}
use Rattle.std.specs.Int.{Width, w8}
use Rattle.std.proofs.Common.{sym, ◌∙◌, ap, subst, arith, append-nil, length-append}
use Rattle.std.proofs.Math.Seq.{take-append_seam, drop-append_seam}
use Rattle.std.proofs.lemmas.List.Elements.{All-nil, All-cons, All-take, All-drop}
use Rattle.bincode_base.specs.declared.error.IntegerType.{IntegerType}
use Rattle.bincode_base.specs.Setting.{Setting}
use Rattle.bincode_spec.specs.Number.{two_complement}
use Rattle.bincode_spec.specs.Fault.{Fault}
use Rattle.bincode_spec.specs.Charge.{Step}
use Rattle.bincode_spec.specs.Format.{Format, pure, fail, from_result, ◌>>=◌, map_format}
use Rattle.bincode_spec.specs.Layers.Laws.{IsLawful}
use Rattle.bincode_lemmas.specs.FormatLaws.{one-word, map-lawful}
use Rattle.bincode_spec.specs.Integers.{number_for, unsigned_integer, signed_integer, unsigned_byte, signed_byte, spelling}
use Rattle.bincode_lemmas.specs.SignedLaws.{two_complement-fits}
use Rattle.bincode_spec.specs.Integers.{IsWidth, width_in_bytes}
use Rattle.bincode_lemmas.specs.IntegerLaws.{FitsIn-from_signed, spelling-are_bytes, unsigned-least, signed-least, unsigned_byte-lawful, signed_byte-lawful}
use Rattle.bincode_spec.specs.Meaning.{Meaning, Number, IsTruth, IsNumber, IsNothing}
use Rattle.bincode_spec.specs.Words.{natural_number, integer_number, not_zero_of, not_zero_by, truth_byte, truth, nothing}
use Rattle.bincode_lemmas.specs.WordsLaws.{not_zero-passed, truth-lawful}
use Rattle.bincode_spec.specs.Allowed.{AllowedWord, NoneShorter, HasShortestWords}
use Rattle.bincode_lemmas.specs.AllowedLaws.{natural-one, allowed-number, unsigned-allows, allowed-unsigned, byte-allows, allowed-byte, signed-allows}
use Rattle.bincode_lemmas.specs.AllowedLaws.{allowed-signed, signed_byte-allows, allowed-signed_byte, truth-allows, allowed-truth, not_zero-allows}
use Rattle.bincode_lemmas.specs.AllowedLaws.{allowed-not_zero, alone-one_length, same-one_length, allowed-nothing}

-- words after a test of their meanings

module _ {A B : Type 0} (test : A → Result B Fault) (F : Format A) where
  nothing_read : (r : Result B Fault) (bytes : List ℕ) (b : B) (s : List Step) → (from_result r).Word bytes b s → (bytes ≡ []) × (r ≡ Ok b)
  unfolding pure fail
  nothing_read (Ok c) bytes b s u = (u.0, ap Ok (sym u.1))
  nothing_read (Err why) bytes b s u = absurd u

  -- a word after a test is a word
  pub word-from_result : (bytes : List ℕ) (b : B) (s : List Step) → (F >>= λ x. from_result (test x)).Word bytes b s → (a : A) × (t : List Step) × (test a ≡ Ok b) × F.Word bytes a t
  unfolding ◌>>=◌
  word-from_result bytes b s u =
      let p = nothing_read (test u.head) u.second b u.second_steps u.second_word in
      let e : bytes ≡ u.first = u.bytes_are ∙ ap (λ z. u.first ++ z) p.0 ∙ append-nil u.first in
      (u.head, u.first_steps, p.1, subst (λ z. F.Word z u.head u.first_steps) (sym e) u.first_word)

  -- and a word whose meaning passes is a word after the test
  pub from_result-word : (bytes : List ℕ) (a : A) (b : B) (s : List Step) → test a ≡ Ok b → F.Word bytes a s → (F >>= λ x. from_result (test x)).Word bytes b s
  unfolding ◌>>=◌ pure
  from_result-word bytes a b s e u =
      record {
        first = bytes;
        second = [];
        head = a;
        first_steps = s;
        second_steps = [];
        bytes_are = sym (append-nil bytes);
        steps_are = sym (append-nil s);
        first_word = u;
        second_word = rw e (refl, refl, refl);
      }

-- numbers

-- no word of a number is shorter, if none of its format is
pub number-none_shorter : {A : Type 0} (integer : A → ℤ) (one : (a b : A) → integer a ≡ integer b → a ≡ b) (F : Format A) (a : A) →
    ((written bytes : List ℕ) (s : List Step) → All (λ b. b < 256) bytes → F.Written written a → F.Word bytes a s → length written ≤ length bytes) → NoneShorter (IsNumber (integer a))
    (IsNumber (integer a)) (map_format (λ k. Number (integer k)) F)
number-none_shorter integer one F a least written bytes m s w h u e =
    let p = word-from_result (λ k. Ok (Number (integer k))) F bytes m s u in
    let i : ◌≡◌ {A = Result Meaning Fault} (Ok (Number (integer p.0))) (Ok (Number (integer a))) = p.2 ∙ ap Ok e in
    let q : p.0 ≡ a = one p.0 a (cc) in
    least written bytes p.1 h (allowed-number integer one F written a w) (subst (λ z. F.Word bytes z p.1) q p.3)

-- an unsigned number is spelled, and a signed one
pub unsigned-spelled : (name : IntegerType) (width n : ℕ) (s : Setting) → n < 256 ^ width → HasShortestWords (IsNumber (pos n)) (natural_number (unsigned_integer name width s))
unsigned-spelled name width n s h = record {
  has_word = record { bytes = spelling s.encoding s.order width n; are_bytes = spelling-are_bytes s.encoding s.order width n; is_allowed = unsigned-allows name width n s h };
  one_length = alone-one_length _ (spelling s.encoding s.order width n) (allowed-unsigned name width n s);
  none_shorter = number-none_shorter pos natural-one (unsigned_integer name width s) n (unsigned-least name width n s);
}

pub signed-spelled : (name : IntegerType) (w : Width) (z : ℤ) (s : Setting) → IsWidth (width_in_bytes w) → FitsSigned w z → HasShortestWords (IsNumber z) (integer_number (signed_integer name (width_in_bytes w) s))
signed-spelled name w z s more h =
    let width = width_in_bytes w in
    let bytes = spelling s.encoding s.order width (number_for width s.encoding z) in
    record {
      has_word = record {
        bytes = bytes;
        are_bytes = spelling-are_bytes s.encoding s.order width (number_for width s.encoding z);
        is_allowed = signed-allows name width z s more
            (FitsIn-from_signed w z h);
      };
      one_length = alone-one_length _ bytes (allowed-signed name width z s);
      none_shorter = number-none_shorter (λ k. k) (λ a b e. e) (signed_integer name width s) z (signed-least name width z s);
    }

not_shorter : (P : Meaning → Type 0) (F : Format Meaning) → IsLawful F → ((bytes : List ℕ) → AllowedWord P F bytes → length bytes ≡ 1) → NoneShorter P P F
not_shorter P F f one written [] m s w h u e =
    let p = f.written_is_word written w.meaning w.is_written in
    let q : [] ≡ written = (one-word f [] written written [] m w.meaning s p.0 u p.1 (sym (append-nil written))).0 in
    omega (arith, ap length q)
not_shorter P F f one written (b ∷ bytes) m s w h u e = omega (arith, one written w)

-- what is always one byte has shortest words
pub one_byte-spelled : (P : Meaning → Type 0) (F : Format Meaning) (b : ℕ) → IsLawful F → b < 256 → AllowedWord P F (b ∷ []) → ((bytes : List ℕ) → AllowedWord P F bytes → length bytes ≡ 1) → HasShortestWords P F
one_byte-spelled P F b f h w one = record {
  has_word = record { bytes = b ∷ []; are_bytes = All-cons (λ b. b < 256) b [] h (All-nil (λ b. b < 256)); is_allowed = w };
  one_length = λ x y a c. one x a ∙ sym (one y c);
  none_shorter = not_shorter P F f one;
}

-- numbers of one byte are, and truth values
pub byte-spelled : (n : ℕ) → n < 2 ^ 8 → HasShortestWords (IsNumber (pos n)) (natural_number unsigned_byte)
byte-spelled n h = one_byte-spelled (IsNumber (pos n)) (natural_number unsigned_byte) n (map-lawful _ unsigned_byte unsigned_byte-lawful) h (byte-allows n) (λ bytes a. ap length (allowed-byte n bytes a))

pub signed_byte-spelled : (z : ℤ) → FitsSigned w8 z → HasShortestWords (IsNumber z) (integer_number signed_byte)
signed_byte-spelled z h =
    one_byte-spelled (IsNumber z) (integer_number signed_byte) (two_complement 1 z) (map-lawful _ signed_byte signed_byte-lawful)
    (two_complement-fits 1 z (FitsIn-from_signed w8 z h)) (signed_byte-allows z (FitsIn-from_signed w8 z h)) (allowed-signed_byte z)

truth_byte_is_byte : (v : Bool) → truth_byte v < 256
truth_byte_is_byte true = omega arith
truth_byte_is_byte false = omega arith

pub truth-spelled : (v : Bool) → HasShortestWords (IsTruth v) truth
truth-spelled v = one_byte-spelled (IsTruth v) truth (truth_byte v) truth-lawful (truth_byte_is_byte v) (truth-allows v) (λ bytes a. ap length (allowed-truth v bytes a))

module _ {A : Type 0} (integer : A → ℤ) (one : (a b : A) → integer a ≡ integer b → a ≡ b) (size : A → ℕ) (name : IntegerType) (F : Format A) (a : A) where
  word_not_zero : (bytes : List ℕ) (m : Meaning) (s : List Step) → (map_format (λ k. Number (integer k)) (not_zero_by size name F)).Word bytes m s →
      (t : List Step) × (map_format (λ k. Number (integer k)) F).Word bytes m t
  word_not_zero bytes m s u =
      let p = word-from_result (λ k. Ok (Number (integer k))) (not_zero_by size name F) bytes m s u in
      let q = word-from_result (λ x. not_zero_of name (size x) x) F bytes p.0 p.1 p.3 in
      let e : q.0 ≡ p.0 = not_zero-passed name (size q.0) q.0 p.0 q.2 in
      (q.1, from_result-word (λ k. Ok (Number (integer k))) F bytes p.0 m q.1 p.2 (subst (λ x. F.Word bytes x q.1) e q.3))

  -- a number that is not 0 is spelled as the number
  pub number-not_zero : 0 < size a → HasShortestWords (IsNumber (integer a)) (map_format (λ k. Number (integer k)) F) →
      HasShortestWords (IsNumber (integer a)) (map_format (λ k. Number (integer k)) (not_zero_by size name F))
  number-not_zero h p = record {
    has_word = record { bytes = p.has_word.bytes; are_bytes = p.has_word.are_bytes; is_allowed = not_zero-allows integer one size name F p.has_word.bytes a h p.has_word.is_allowed };
    one_length = same-one_length _ _ (λ bytes. allowed-not_zero integer one size name F bytes a) p.one_length;
    none_shorter = λ written bytes m s w b u e. let t = word_not_zero bytes m s u in p.none_shorter written bytes m t.0 (allowed-not_zero integer one size name F written a w) b t.1 e;
  }

-- tuples

-- bytes in two parts are no fewer, if those of each part are no fewer
pub parts-no_longer : (written bytes x y v w : List ℕ) → written ≡ x ++ y → bytes ≡ v ++ w → All (λ b. b < 256) bytes →
    (All (λ b. b < 256) v → length x ≤ length v) → (All (λ b. b < 256) w → length y ≤ length w) → length written ≤ length bytes
parts-no_longer written bytes x y v w d e h f g =
    let below : All (λ b. b < 256) (v ++ w) = subst (All (λ b. b < 256)) e h in
    let l = f (subst (All (λ b. b < 256)) (take-append_seam v w) (All-take (λ b. b < 256) (length v) (v ++ w) below)) in
    let r = g (subst (All (λ b. b < 256)) (drop-append_seam v w) (All-drop (λ b. b < 256) (length v) (v ++ w) below)) in
    omega (arith, l, r, ap length d, length-append x y, ap length e, length-append v w)

pub nothing-none_shorter : NoneShorter IsNothing IsNothing nothing
nothing-none_shorter written bytes m s w h u e = omega (arith, ap length (allowed-nothing written w))
