-- The format of a character is lawful, and its words are the bytes that std gives for it.
use Rattle.std.specs.Prelude.{◌≡◌, ℕ, ◌+◌, ◌-◌, ◌/◌, ◌%◌, ◌<◌, ◌≤◌, ◌⊎◌, nat_lt, nat_eq, Bool, true, false, not, if◌then◌else◌, List, [], ◌∷◌, ◌++◌}
use Rattle.std.specs.Prelude.{length, refl, Result, Ok, Err, Option, Some, None, SomeIff}
use Rattle.std.specs.List.{All}
use Rattle.std.specs.Char.{encode_utf8, IsScalar}
use Rattle.std.specs.Str.{is_utf8, all_scalars, encode_utf8_all}
use Rattle.std.proofs.Common.{sym, ◌∙◌, ap, subst, inl, inr, arith, append-nil, length-append, eq-eqb}
use Rattle.std.proofs.lemmas.List.Elements.{All-nil, All-cons}
use Rattle.std.proofs.lemmas.Bool.{cases_lt, lt-ltb, ltb-true, le-ltb, and_parts, not-false, false_from_ne_true}
use Rattle.std.proofs.lemmas.Str.{IsUtf8-encode, is_utf8-from_IsUtf8, IsUtf8-from_is_utf8}
use Rattle.std.proofs.Math.Logic.{⊎_elim}
use lib.Pointwise.{pointwise, bytes_decides}
use lib.Utf8.{encode, scalar, scalar_cases, low_scalar}
use Rattle.bincode_spec.specs.Fault.{Fault, InvalidChar}
use Rattle.bincode_spec.specs.Charge.{Step, Charge}
use Rattle.bincode_spec.specs.Format.{pure, fail, fixed_bytes, step, ◌>>=◌, from_result}
use Rattle.bincode_spec.specs.Layers.Laws.{IsLawful, IsBalanced}
use Rattle.bincode_lemmas.specs.FormatLaws.{IsSettling, FailsBeforeEnd, fail-lawful, fixed_bytes-lawful, turn-lawful, test-lawful, charge_then-lawful}
use Rattle.bincode_lemmas.specs.Balance.{fail-holds, fixed_bytes-holds, turn-holds, test-balanced, charge_then-balanced}
use Rattle.bincode_spec.specs.Integers.{byte, first_of}
use Rattle.bincode_lemmas.specs.IntegerLaws.{byte-lawful, byte-balanced}
use Rattle.bincode_spec.specs.Meaning.{Meaning, Character, IsCharacter}
use Rattle.bincode_spec.specs.Allowed.{AllowedWord, SomeWord, NoneShorter}
use Rattle.bincode_lemmas.specs.CellLaws.{cell-has_word}
use Rattle.bincode_lemmas.specs.AllowedLaws.{alone-one_length}
use Rattle.bincode_spec.specs.Forms.{characters}
use Rattle.bincode_lemmas.specs.FormLaws.{FormLaws}
use Rattle.bincode_lemmas.specs.NeedLaws.{character-needs}
use Rattle.bincode_lemmas.specs.ChargedLaws.{character-charged}
use Rattle.bincode_spec.specs.Words.{char_width, code_point, four_bytes, char_of, rest_of_char, after_char, character}
use Rattle.bincode_spec.specs.Layers.Chars.{Spells}

-- the laws

settles_by : (test : Bool) (m : Meaning) (bytes : List ℕ) → FailsBeforeEnd (if test then Ok m else Err (InvalidChar bytes))
settles_by true m bytes = tt
settles_by false m bytes = λ h. h

char_settles : (first : ℕ) → IsSettling (λ bytes. char_of (first ∷ bytes))
char_settles first bytes = settles_by (is_utf8 (first ∷ bytes)) (Character (code_point (first ∷ bytes))) (four_bytes (first ∷ bytes))

-- the bytes after the first are lawful
pub rest_of_char-lawful : (first width : ℕ) → IsLawful (rest_of_char first width)
rest_of_char-lawful first width = test-lawful (fixed_bytes (width - 1)) (λ bytes. char_of (first ∷ bytes)) (fixed_bytes-lawful (width - 1)) (char_settles first)

-- and balanced
pub rest_of_char-balanced : (first width : ℕ) → IsBalanced (rest_of_char first width)
rest_of_char-balanced first width = test-balanced (fixed_bytes (width - 1)) (λ bytes. char_of (first ∷ bytes)) (fixed_bytes-holds 0 (width - 1))

after_lawful : (first : ℕ) (width : Option ℕ) → IsLawful (after_char first width)
after_lawful first None = fail-lawful (InvalidChar (four_bytes (first ∷ []))) (λ h. h)
after_lawful first (Some width) = charge_then-lawful width (rest_of_char first width) (rest_of_char-lawful first width)

after_balanced : (first : ℕ) (width : Option ℕ) → IsBalanced (after_char first width)
after_balanced first None = fail-holds 0 0 (InvalidChar (four_bytes (first ∷ [])))
after_balanced first (Some width) = charge_then-balanced width (rest_of_char first width) (rest_of_char-balanced first width)

-- a character is lawful
pub character-lawful : IsLawful character
character-lawful = turn-lawful byte (λ first. after_char first (char_width first)) byte-lawful (λ first. after_lawful first (char_width first))

-- a character is balanced
pub character-balanced : IsBalanced character
character-balanced = turn-holds 0 0 0 byte (λ first. after_char first (char_width first)) byte-balanced (λ first. after_balanced first (char_width first))

-- the forms

width_1 : (first : ℕ) → first < 128 → char_width first ≡ Some 1
width_1 first h = rw (lt-ltb first 128 h) refl

width_2 : (first : ℕ) → 194 ≤ first → first < 224 → char_width first ≡ Some 2
width_2 first h k = rw (le-ltb first 128 (omega arith), le-ltb first 194 h, lt-ltb first 224 k) refl

width_3 : (first : ℕ) → 224 ≤ first → first < 240 → char_width first ≡ Some 3
width_3 first h k = rw (le-ltb first 128 (omega arith), le-ltb first 194 (omega arith), le-ltb first 224 h, lt-ltb first 240 k) refl

width_4 : (first : ℕ) → 240 ≤ first → first < 245 → char_width first ≡ Some 4
width_4 first h k = rw (le-ltb first 128 (omega arith), le-ltb first 194 (omega arith), le-ltb first 224 (omega arith), le-ltb first 240 h, lt-ltb first 245 k) refl

-- the bytes that std gives
pub encoded-1 : (c : ℕ) → c < 128 → encode_utf8 c ≡ c ∷ []
unfolding encode
encoded-1 c h = rw (lt-ltb c 128 h) refl

pub encoded-2 : (c : ℕ) → 128 ≤ c → c < 2048 → encode_utf8 c ≡ (192 + c / 64) ∷ (128 + c % 64) ∷ []
unfolding encode
encoded-2 c h k = rw (le-ltb c 128 h, lt-ltb c 2048 k) refl

pub encoded-3 : (c : ℕ) → 2048 ≤ c → c < 65536 → encode_utf8 c ≡ (224 + c / 4096) ∷ (128 + c / 64 % 64) ∷ (128 + c % 64) ∷ []
unfolding encode
encoded-3 c h k = rw (le-ltb c 128 (omega arith), le-ltb c 2048 h, lt-ltb c 65536 k) refl

pub encoded-4 : (c : ℕ) → 65536 ≤ c → encode_utf8 c ≡ (240 + c / 262144) ∷ (128 + c / 4096 % 64) ∷ (128 + c / 64 % 64) ∷ (128 + c % 64) ∷ []
unfolding encode
encoded-4 c h = rw (le-ltb c 128 (omega arith), le-ltb c 2048 (omega arith), le-ltb c 65536 h) refl

-- and how many they are at most, below what takes one more
pub length-encoded_1 : (c : ℕ) → c < 128 → length (encode_utf8 c) ≤ 1
length-encoded_1 c h = omega (arith, ap length (encoded-1 c h))

pub length-encoded_2 : (c : ℕ) → c < 2048 → length (encode_utf8 c) ≤ 2
length-encoded_2 c h = ⊎_elim (λ k. omega (arith, length-encoded_1 c k)) (λ k. omega (arith, ap length (encoded-2 c k h))) (cases_lt c 128)

pub length-encoded_3 : (c : ℕ) → c < 65536 → length (encode_utf8 c) ≤ 3
length-encoded_3 c h = ⊎_elim (λ k. omega (arith, length-encoded_2 c k)) (λ k. omega (arith, ap length (encoded-3 c k h))) (cases_lt c 2048)

-- the bytes of a character have the width that the first one says, and the digits of its code point
pub record IsCharSpelling (c : ℕ) : Type 0 where
  pub first : ℕ
  pub tail : List ℕ
  pub bytes_are : encode_utf8 c ≡ first ∷ tail
  pub width_is : char_width first ≡ Some (length (first ∷ tail))
  pub code_is : code_point (first ∷ tail) ≡ c
  pub are_bytes : All (λ b. b < 256) (first ∷ tail)

last_byte : (c : ℕ) → All (λ b. b < 256) ((128 + c % 64) ∷ [])
last_byte c = All-cons (λ b. b < 256) (128 + c % 64) [] (omega arith) (All-nil (λ b. b < 256))

last_bytes : (c : ℕ) → All (λ b. b < 256) ((128 + c / 64 % 64) ∷ (128 + c % 64) ∷ [])
last_bytes c = All-cons (λ b. b < 256) (128 + c / 64 % 64) ((128 + c % 64) ∷ []) (omega arith) (last_byte c)

spelled_1 : (c : ℕ) → c < 128 → IsCharSpelling c
spelled_1 c h = record { first = c; tail = []; bytes_are = encoded-1 c h; width_is = width_1 c h; code_is = refl; are_bytes = All-cons (λ b. b < 256) c [] (omega (arith, h)) (All-nil (λ b. b < 256)) }

spelled_2 : (c : ℕ) → 128 ≤ c → c < 2048 → IsCharSpelling c
spelled_2 c h k = record {
  first = 192 + c / 64;
  tail = (128 + c % 64) ∷ [];
  bytes_are = encoded-2 c h k;
  width_is = width_2 (192 + c / 64) (omega arith) (omega arith);
  code_is = omega arith;
  are_bytes = All-cons (λ b. b < 256) (192 + c / 64) ((128 + c % 64) ∷ []) (omega arith) (last_byte c);
}

spelled_3 : (c : ℕ) → 2048 ≤ c → c < 65536 → IsCharSpelling c
spelled_3 c h k = record {
  first = 224 + c / 4096;
  tail = (128 + c / 64 % 64) ∷ (128 + c % 64) ∷ [];
  bytes_are = encoded-3 c h k;
  width_is = width_3 (224 + c / 4096) (omega arith) (omega arith);
  code_is = omega arith;
  are_bytes = All-cons (λ b. b < 256) (224 + c / 4096) ((128 + c / 64 % 64) ∷ (128 + c % 64) ∷ []) (omega arith) (last_bytes c);
}

spelled_4 : (c : ℕ) → 65536 ≤ c → c < 1114112 → IsCharSpelling c
spelled_4 c h k = record {
  first = 240 + c / 262144;
  tail = (128 + c / 4096 % 64) ∷ (128 + c / 64 % 64) ∷ (128 + c % 64) ∷ [];
  bytes_are = encoded-4 c h;
  width_is = width_4 (240 + c / 262144) (omega arith) (omega arith);
  code_is = omega arith;
  are_bytes = All-cons (λ b. b < 256) (240 + c / 262144) ((128 + c / 4096 % 64) ∷ (128 + c / 64 % 64) ∷ (128 + c % 64) ∷ []) (omega arith)
      (All-cons (λ b. b < 256) (128 + c / 4096 % 64) ((128 + c / 64 % 64) ∷ (128 + c % 64) ∷ []) (omega arith) (last_bytes c));
}

spelled_by : (c : ℕ) → c < 1114112 → (c < 128) ⊎ (128 ≤ c) → (c < 2048) ⊎ (2048 ≤ c) → (c < 65536) ⊎ (65536 ≤ c) → IsCharSpelling c
spelled_by c l (inl h) y z = spelled_1 c h
spelled_by c l (inr h) (inl k) z = spelled_2 c h k
spelled_by c l (inr h) (inr k) (inl m) = spelled_3 c k m
spelled_by c l (inr h) (inr k) (inr m) = spelled_4 c m l

below_most : (c : ℕ) → (c < 55296) ⊎ ((57344 ≤ c) × (c < 1114112)) → c < 1114112
below_most c (inl h) = omega arith
below_most c (inr h) = h.1

-- what std gives for a character is spelled as the format has it
pub spelled : (c : ℕ) → IsScalar c → IsCharSpelling c
spelled c s = spelled_by c (below_most c (scalar_cases c s)) (cases_lt c 128) (cases_lt c 2048) (cases_lt c 65536)

-- words

-- the bytes of a character are a text
pub is_utf8-encoded : (c : ℕ) → IsScalar c → is_utf8 (encode_utf8 c) ≡ true
is_utf8-encoded c s = is_utf8-from_IsUtf8 (encode_utf8 c) (IsUtf8-encode c s)

-- and their digits are its number
pub code_point-encoded : (c : ℕ) → IsScalar c → code_point (encode_utf8 c) ≡ c
code_point-encoded c s = let p = spelled c s in ap code_point p.bytes_are ∙ p.code_is

-- so they pass the test, and mean it
pub char_of-encoded : (c : ℕ) → IsScalar c → char_of (encode_utf8 c) ≡ Ok (Character c)
char_of-encoded c s = rw (is_utf8-encoded c s, code_point-encoded c s) refl

char_of_by : (test : Bool) (n : ℕ) (bytes : List ℕ) (m : Meaning) → (if test then Ok (Character n) else Err (InvalidChar bytes)) ≡ Ok m → (test ≡ true) × (m ≡ Character n)
char_of_by true n bytes m e = (refl, cc)
char_of_by false n bytes m e = absurd (cc)

no_bytes : (bytes : List ℕ) → length bytes ≡ 0 → bytes ≡ []
no_bytes [] e = refl
no_bytes (b ∷ bytes) e = absurd (omega arith)

-- bytes of the width that the first one says are one character
pub record OneChar (bytes : List ℕ) (m : Meaning) : Type 0 where
  pub code : ℕ
  pub is_scalar : IsScalar code
  pub bytes_are : bytes ≡ encode_utf8 code
  pub meaning_is : m ≡ Character code

module _ (first : ℕ) (tail : List ℕ) (w : char_width first ≡ Some (length (first ∷ tail))) where
  one_char : (cs : List ℕ) → all_scalars cs ≡ true → encode_utf8_all cs ≡ first ∷ tail → (c : ℕ) × IsScalar c × (first ∷ tail ≡ encode_utf8 c)
  one_char [] s e = absurd (cc)
  one_char (c ∷ cs) s e =
      let h = and_parts (scalar c) (all_scalars cs) s in
      let p = spelled c h.0 in
      let q : p.first ∷ (p.tail ++ encode_utf8_all cs) ≡ first ∷ tail = ap (λ z. z ++ encode_utf8_all cs) (sym p.bytes_are) ∙ e in
      let f : p.first ≡ first = cc in
      let t : p.tail ++ encode_utf8_all cs ≡ tail = cc in
      let o : Some (length (p.first ∷ p.tail)) ≡ Some (length (first ∷ tail)) = sym p.width_is ∙ ap char_width f ∙ w in
      let l : length (p.first ∷ p.tail) ≡ length (first ∷ tail) = cc in
      let k : length (p.tail ++ encode_utf8_all cs) ≡ length tail = ap length t in
      let n : encode_utf8_all cs ≡ [] = no_bytes (encode_utf8_all cs) (omega (arith, length-append p.tail (encode_utf8_all cs))) in
      (c, h.0, sym e ∙ ap (λ z. encode_utf8 c ++ z) n ∙ append-nil (encode_utf8 c))

  -- what the test lets pass is one character
  pub char_of-one : (m : Meaning) → char_of (first ∷ tail) ≡ Ok m → OneChar (first ∷ tail) m
  char_of-one m e =
      let h = char_of_by (is_utf8 (first ∷ tail)) (code_point (first ∷ tail)) (four_bytes (first ∷ tail)) m e in
      let u = IsUtf8-from_is_utf8 (first ∷ tail) h.0 in
      let p = one_char u.0 u.1.0 u.1.1 in
      let q = spelled p.0 p.1 in
      let k : code_point (first ∷ tail) ≡ p.0 = ap code_point (p.2 ∙ q.bytes_are) ∙ q.code_is in
      record { code = p.0; is_scalar = p.1; bytes_are = p.2; meaning_is = h.1 ∙ ap Character k }

widths_by : (a b c d e : Bool) (width : ℕ) → (if a then Some 1 else if b then None else if c then Some 2 else if d then Some 3 else if e then Some 4 else None) ≡ Some width → (1 ≤ width) × (width ≤ 4)
widths_by true b c d e width h = let k : 1 ≡ width = cc in (omega arith, omega arith)
widths_by false true c d e width h = absurd (cc)
widths_by false false true d e width h = let k : 2 ≡ width = cc in (omega arith, omega arith)
widths_by false false false true e width h = let k : 3 ≡ width = cc in (omega arith, omega arith)
widths_by false false false false true width h = let k : 4 ≡ width = cc in (omega arith, omega arith)
widths_by false false false false false width h = absurd (cc)

-- a character has one to four bytes
pub char_width-bounds : (first width : ℕ) → char_width first ≡ Some width → (1 ≤ width) × (width ≤ 4)
char_width-bounds first width e = widths_by (nat_lt first 128) (nat_lt first 194) (nat_lt first 224) (nat_lt first 240) (nat_lt first 245) width e

from_result_word : (r : Result Meaning Fault) (bytes : List ℕ) (m : Meaning) (s : List Step) → (from_result r).Word bytes m s → (bytes ≡ []) × (r ≡ Ok m) × (s ≡ [])
unfolding pure fail
from_result_word (Ok a) bytes m s u = (u.0, ap Ok (sym u.1), u.2)
from_result_word (Err why) bytes m s u = absurd u

rest_word : (first width : ℕ) (bytes : List ℕ) (m : Meaning) (s : List Step) → (rest_of_char first width).Word bytes m s → (length bytes ≡ width - 1) × (char_of (first ∷ bytes) ≡ Ok m) × (s ≡ [])
unfolding ◌>>=◌ fixed_bytes
rest_word first width bytes m s u =
    let p = from_result_word (char_of (first ∷ u.head)) u.second m u.second_steps u.second_word in
    let e : bytes ≡ u.first = u.bytes_are ∙ ap (λ z. u.first ++ z) p.0 ∙ append-nil u.first in
    let h : u.head ≡ bytes = u.first_word.1 ∙ sym e in
    (ap length e ∙ u.first_word.0, subst (λ z. char_of (first ∷ z) ≡ Ok m) h p.1, u.steps_are ∙ ap (λ z. z ++ u.second_steps) u.first_word.2 ∙ p.2)

after_word : (first : ℕ) (width : Option ℕ) (bytes : List ℕ) (m : Meaning) (s : List Step) → char_width first ≡ width →
    (after_char first width).Word bytes m s →
    (char_width first ≡ Some (length (first ∷ bytes))) × (char_of (first ∷ bytes) ≡ Ok m) × (s ≡ Charge (length (first ∷ bytes)) ∷ [])
unfolding ◌>>=◌ fail step
after_word first None bytes m s w u = absurd u
after_word first (Some width) bytes m s w u =
    let e : bytes ≡ u.second = u.bytes_are ∙ ap (λ z. z ++ u.second) u.first_word.0 in
    let p = rest_word first width u.second m u.second_steps u.second_word in
    let b = char_width-bounds first width w in
    let l : width ≡ length (first ∷ bytes) = omega (arith, p.0, ap length e) in
    let t : s ≡ Charge width ∷ [] = u.steps_are ∙ ap (λ z. z ++ u.second_steps) u.first_word.1 ∙ ap (λ z. Charge width ∷ z) p.2 in
    (w ∙ ap Some l, ap (λ z. char_of (first ∷ z)) e ∙ p.1, t ∙ ap (λ z. Charge z ∷ []) l)

one_byte : (bytes : List ℕ) → length bytes ≡ 1 → bytes ≡ first_of bytes ∷ []
one_byte [] e = absurd (omega arith)
one_byte (b ∷ bytes) e = ap (λ z. b ∷ z) (no_bytes bytes (omega arith))

byte_word : (bytes : List ℕ) (b : ℕ) (s : List Step) → byte.Word bytes b s → (bytes ≡ b ∷ []) × (s ≡ [])
unfolding byte ◌>>=◌ fixed_bytes pure
byte_word bytes b s u =
    let e : bytes ≡ u.first = u.bytes_are ∙ ap (λ z. u.first ++ z) u.second_word.0 ∙ append-nil u.first in
    let h : u.first ≡ first_of u.first ∷ [] = one_byte u.first u.first_word.0 in
    (e ∙ h ∙ ap (λ z. z ∷ []) (sym (u.second_word.1 ∙ ap first_of u.first_word.1)), u.steps_are ∙ ap (λ z. z ++ u.second_steps) u.first_word.2 ∙ u.second_word.2)

-- one character, with its whole charge
pub record CharWord (bytes : List ℕ) (m : Meaning) (steps : List Step) : Type 0 where
  pub one_char : OneChar bytes m
  pub steps_are : steps ≡ Charge (length bytes) ∷ []

-- a word is what std gives for one character
pub word-character : (bytes : List ℕ) (m : Meaning) (s : List Step) → character.Word bytes m s → CharWord bytes m s
unfolding ◌>>=◌
word-character bytes m s u =
    let p = byte_word u.first u.head u.first_steps u.first_word in
    let q = after_word u.head (char_width u.head) u.second m u.second_steps refl u.second_word in
    let e : bytes ≡ u.head ∷ u.second = u.bytes_are ∙ ap (λ z. z ++ u.second) p.0 in
    let t : s ≡ Charge (length (u.head ∷ u.second)) ∷ [] = u.steps_are ∙ ap (λ z. z ++ u.second_steps) p.1 ∙ q.2 in
    record { one_char = subst (λ z. OneChar z m) (sym e) (char_of-one u.head u.second q.0 m q.1); steps_are = t ∙ ap (λ z. Charge (length z) ∷ []) (sym e) }

-- what is written for a character is what std gives for it
pub written-character : (bytes : List ℕ) (m : Meaning) → character.Written bytes m → OneChar bytes m
written-character bytes m w = let p = character-lawful.written_is_word bytes m w in (word-character bytes m p.0 p.1).one_char

byte_written : (b : ℕ) → byte.Written (b ∷ []) b
unfolding byte ◌>>=◌ fixed_bytes pure
byte_written b = record { first = b ∷ []; second = []; head = b ∷ []; bytes_are = refl; first_written = (refl, refl); second_written = (refl, refl) }

from_result_written : (r : Result Meaning Fault) (m : Meaning) → r ≡ Ok m → (from_result r).Written [] m
unfolding pure
from_result_written r m e = rw e (refl, refl)

rest_written : (first : ℕ) (tail : List ℕ) (m : Meaning) → char_of (first ∷ tail) ≡ Ok m → (rest_of_char first (length (first ∷ tail))).Written tail m
unfolding ◌>>=◌ fixed_bytes
rest_written first tail m e = record {
  first = tail;
  second = [];
  head = tail;
  bytes_are = sym (append-nil tail);
  first_written = (omega arith, refl);
  second_written = from_result_written (char_of (first ∷ tail)) m e;
}

after_written : (first : ℕ) (tail : List ℕ) (m : Meaning) → char_of (first ∷ tail) ≡ Ok m → (after_char first (Some (length (first ∷ tail)))).Written tail m
unfolding ◌>>=◌ step
after_written first tail m e = record { first = []; second = tail; head = tt; bytes_are = refl; first_written = refl; second_written = rest_written first tail m e }

char_written : (first : ℕ) (tail : List ℕ) (m : Meaning) → char_width first ≡ Some (length (first ∷ tail)) → char_of (first ∷ tail) ≡ Ok m → character.Written (first ∷ tail) m
unfolding ◌>>=◌
char_written first tail m w e = record {
  first = first ∷ [];
  second = tail;
  head = first;
  bytes_are = refl;
  first_written = byte_written first;
  second_written = subst (λ z. (after_char first z).Written tail m) (sym w) (after_written first tail m e);
}

-- what std gives for a character is written for it
pub character-written : (c : ℕ) → IsScalar c → character.Written (encode_utf8 c) (Character c)
character-written c s =
    let p = spelled c s in
    let e : char_of (p.first ∷ p.tail) ≡ Ok (Character c) = subst (λ z. char_of z ≡ Ok (Character c)) p.bytes_are (char_of-encoded c s) in
    subst (λ z. character.Written z (Character c)) (sym p.bytes_are) (char_written p.first p.tail (Character c) p.width_is e)

-- a character allows the bytes that std gives for it
pub character-allows : (c : ℕ) → IsScalar c → AllowedWord (IsCharacter c) character (encode_utf8 c)
character-allows c s = record { meaning = Character c; is_meant = refl; is_written = character-written c s }

-- and no other
pub allowed-character : (c : ℕ) (bytes : List ℕ) → AllowedWord (IsCharacter c) character bytes → bytes ≡ encode_utf8 c
allowed-character c bytes a =
    let p = written-character bytes a.meaning a.is_written in
    let e : Character c ≡ Character p.code = sym a.is_meant ∙ p.meaning_is in
    let q : c ≡ p.code = cc in
    p.bytes_are ∙ ap encode_utf8 (sym q)

-- a character has one spelling
pub character-alone : (c : ℕ) (bytes : List ℕ) (s : List Step) → character.Word bytes (Character c) s → bytes ≡ encode_utf8 c
character-alone c bytes s u =
    let w = word-character bytes (Character c) s u in
    let p = w.one_char in
    let e : Character c ≡ Character p.code = p.meaning_is in
    let q : c ≡ p.code = cc in
    p.bytes_are ∙ ap encode_utf8 (sym q)

-- no word of a character is shorter than the one that is written for it
pub character-none_shorter : (c : ℕ) → NoneShorter (IsCharacter c) (IsCharacter c) character
character-none_shorter c written bytes m s w h u e =
    let p = allowed-character c written w in
    let q = character-alone c bytes s (subst (λ z. character.Word bytes z s) e u) in
    omega (arith, ap length (p ∙ sym q))

-- it has a word of bytes
pub character-has_word : (c : ℕ) → IsScalar c → SomeWord (AllowedWord (IsCharacter c) character)
character-has_word c h = record { bytes = encode_utf8 c; are_bytes = let p = spelled c h in rw p.bytes_are p.are_bytes; is_allowed = character-allows c h }

-- characters are lawful
pub characters-laws : FormLaws characters
characters-laws = record {
  lawful = λ s. character-lawful;
  balanced = λ s. character-balanced;
  spelled = λ s c h. record { has_word = character-has_word c h; one_length = alone-one_length _ (encode_utf8 c) (allowed-character c); none_shorter = character-none_shorter c };
  one_meaning = λ v w m n h k l. l ∙ sym k ∙ h;
  some_word = λ s. cell-has_word character character-lawful _ (character-has_word 65 refl);
  needs = λ s. character-needs;
  charges_enough = λ s. character-charged;
}

-- characters of one meaning are equal
pub character-same : (v w : ℕ) (m : Meaning) → IsCharacter v m → IsCharacter w m → nat_eq v w ≡ true
character-same v w m a b =
    let e : Character v ≡ Character w = sym a ∙ b in
    let q : v ≡ w = cc in
    eq-eqb v w q

width_1_by : (a b c d e : Bool) (width : ℕ) → (if a then Some 1 else if b then None else if c then Some 2 else if d then Some 3 else if e then Some 4 else None) ≡ Some width → width ≤ 1 → a ≡ true
width_1_by true b c d e width h l = refl
width_1_by false true c d e width h l = absurd (cc)
width_1_by false false true d e width h l = let k : 2 ≡ width = cc in absurd (omega arith)
width_1_by false false false true e width h l = let k : 3 ≡ width = cc in absurd (omega arith)
width_1_by false false false false true width h l = let k : 4 ≡ width = cc in absurd (omega arith)
width_1_by false false false false false width h l = absurd (cc)

-- a byte below 128, and no other, is a character by itself
pub char_of-low : (first : ℕ) → first < 128 → char_of (first ∷ []) ≡ Ok (Character first)
char_of-low first h = subst (λ z. char_of z ≡ Ok (Character first)) (encoded-1 first h) (char_of-encoded first (low_scalar first (omega arith)))

pub char_of-alone : (first width : ℕ) → char_width first ≡ Some width → width ≤ 1 → char_of (first ∷ []) ≡ Ok (Character first)
char_of-alone first width w l = char_of-low first (ltb-true first 128 (width_1_by (nat_lt first 128) (nat_lt first 194) (nat_lt first 224) (nat_lt first 240) (nat_lt first 245) width w l))

-- bytes that were read

module _ (first : ℕ) (tail : List ℕ) (w : char_width first ≡ Some (length (first ∷ tail))) (n : ℕ) (code_is : code_point (first ∷ tail) ≡ n) where
  -- bytes whose digits are no code point, or are not its encoding, spell no character
  pub spells-none : (IsScalar n → first ∷ tail ≡ encode_utf8 n → ⊥) → Spells (first ∷ tail) None
  spells-none other =
      let no = λ (e : is_utf8 (first ∷ tail) ≡ true).
      let t : char_of (first ∷ tail) ≡ Ok (Character (code_point (first ∷ tail))) = rw e refl in
      let q = char_of-one first tail w (Character (code_point (first ∷ tail))) t in
      let m : Character (code_point (first ∷ tail)) ≡ Character q.code = q.meaning_is in
      let k : q.code ≡ n = cc in
      other (subst IsScalar k q.is_scalar) (q.bytes_are ∙ ap encode_utf8 k) in
      rw (false_from_ne_true (is_utf8 (first ∷ tail)) no) refl

  -- nor do those of another length,
  pub spells-longer : (k : ℕ) → length (encode_utf8 n) ≤ k → k < length (first ∷ tail) → Spells (first ∷ tail) None
  spells-longer k h l = spells-none (λ s e. let m : length (first ∷ tail) ≡ length (encode_utf8 n) = ap length e in omega arith)

  -- with other bytes,
  pub spells-other : (xs : List ℕ) → xs ≡ encode_utf8 n → true ≡ not (pointwise nat_eq xs (first ∷ tail)) → Spells (first ∷ tail) None
  spells-other xs e differ = spells-none (λ s h. let p = rw ((bytes_decides xs (first ∷ tail)).1 (e ∙ sym h)) at differ in cc)

  -- or with a number past that of every character
  pub spells-past : 1114112 ≤ n → Spells (first ∷ tail) None
  spells-past h = spells-none (λ s e. let m = below_most n (scalar_cases n s) in omega arith)

  spells_by : (found : Option ℕ) → first ∷ tail ≡ encode_utf8 n → SomeIff found (IsScalar n) n → Spells (first ∷ tail) found
  spells_by None e other = spells-none (λ s h. other s)
  spells_by (Some c) e h = subst (λ z. char_of z ≡ Ok (Character c)) (sym e) (char_of-encoded n h.0 ∙ ap (λ z. Ok (Character z)) (sym h.1))

  -- the encoding of a code point spells it
  pub spells-found : (found : Option ℕ) (xs : List ℕ) → xs ≡ encode_utf8 n → false ≡ not (pointwise nat_eq xs (first ∷ tail)) → SomeIff found (IsScalar n) n → Spells (first ∷ tail) found
  spells-found found xs e same = spells_by found (sym ((bytes_decides xs (first ∷ tail)).0 (not-false _ (sym same))) ∙ e)
