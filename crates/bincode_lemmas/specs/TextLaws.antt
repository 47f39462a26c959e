-- Bytes after their length that pass a test are lawful: texts, and C strings. They allow a word of their length and
-- then the bytes, which no other word of them is shorter than.
use Rattle.std.specs.Prelude.{◌≡◌, ℕ, nat_eq, ◌<◌, ◌^◌, Bool, true, false, if◌then◌else◌, Option, Some, None, Result, Ok, Err, List, [], ◌∷◌, ◌++◌, length, refl}
use Rattle.std.specs.List.{All}
use Rattle.std.specs.Char.{encode_utf8}
use Rattle.std.specs.Str.{IsUtf8, is_utf8, all_scalars, encode_utf8_all}
use Rattle.std.proofs.Common.{sym, ◌∙◌, ap, subst, arith}
use Rattle.std.proofs.lemmas.Bool.{and_parts}
use Rattle.std.proofs.lemmas.Str.{is_utf8-from_IsUtf8}
use Rattle.std.proofs.lemmas.List.Elements.{All-nil, All-append}
use lib.Pointwise.{pointwise, bytes_decides}
use lib.Utf8.{scalar}
use Rattle.bincode_base.specs.declared.error.IntegerType.TheVariants.{U64}
use Rattle.bincode_base.specs.Setting.{Setting}
use Rattle.bincode_spec.specs.Fault.{Fault, Utf8}
use Rattle.bincode_spec.specs.Charge.{Step}
use Rattle.bincode_spec.specs.Format.{Format, fixed_bytes, step, ◌>>=◌, without_count, charge_then, from_result}
use Rattle.bincode_spec.specs.Layers.Laws.{IsLawful, IsBalanced}
use Rattle.bincode_lemmas.specs.FormatLaws.{FailsBeforeEnd, fixed_bytes-lawful, turn-lawful, without_count-lawful, test-lawful, charge_then-lawful}
use Rattle.bincode_lemmas.specs.Balance.{fixed_bytes-holds, turn-holds, without_count-holds, test-balanced, charge_then-balanced}
use Rattle.bincode_spec.specs.Integers.{Eight}
use Rattle.bincode_lemmas.specs.IntegerLaws.{unsigned-lawful, unsigned-balanced, unsigned-least}
use Rattle.bincode_spec.specs.Meaning.{Meaning, Bytes, IsBytes}
use Rattle.bincode_spec.specs.NoZero.{first_zero, HasNoZero}
use Rattle.bincode_spec.specs.Words.{len, length_prefixed, text_of, text, without_nul_of, without_nul}
use Rattle.bincode_spec.specs.Allowed.{AllowedWord, SomeWord, OneLength, IsShortest}
use Rattle.bincode_lemmas.specs.Sequences.{Both}
use Rattle.bincode_spec.specs.Layers.Meanings.{LengthWord}
use Rattle.bincode_spec.specs.Cells.{HasWord}
use Rattle.bincode_lemmas.specs.AllowedLaws.{from_result-written, written-from_result, natural-allows, allowed-natural, both-one_length, same-one_length, alone-one_length, more-allowed}
use Rattle.bincode_lemmas.specs.SpelledLaws.{unsigned-spelled, word-from_result, parts-no_longer}
use Rattle.bincode_lemmas.specs.CellLaws.{cell-has_word}
use Rattle.bincode_lemmas.specs.CharLaws.{spelled}

-- the laws

-- length-prefixed bytes are lawful
pub length_prefixed-lawful : (s : Setting) → IsLawful (length_prefixed s)
length_prefixed-lawful s =
    turn-lawful (len s) (λ n. charge_then n (without_count (fixed_bytes n))) (unsigned-lawful U64 8 s (Eight refl)) (λ n. charge_then-lawful n (without_count (fixed_bytes n)) (without_count-lawful (fixed_bytes n) (fixed_bytes-lawful n)))

pub length_prefixed-balanced : (s : Setting) → IsBalanced (length_prefixed s)
length_prefixed-balanced s =
    turn-holds 0 0 0 (len s) (λ n. charge_then n (without_count (fixed_bytes n))) (unsigned-balanced U64 8 s) (λ n. charge_then-balanced n (without_count (fixed_bytes n)) (without_count-holds 0 0 (fixed_bytes n) (fixed_bytes-holds 0 n)))

-- what passes a test

module _ (test : List ℕ → Result Meaning Fault) (Is : List ℕ → Type 0) (passes : (bytes : List ℕ) → Is bytes → test bytes ≡ Ok (Bytes bytes))
    (passed : (bytes : List ℕ) (m : Meaning) → test bytes ≡ Ok m → m ≡ Bytes bytes) (s : Setting) where
  abbrev tested : Setting → Format Meaning
  tested setting = length_prefixed setting >>= λ bytes. from_result (test bytes)

  counted_written : (bytes word : List ℕ) → Both (LengthWord s (length bytes)) (λ b. b ≡ bytes) word → (length_prefixed s).Written word bytes
  unfolding ◌>>=◌ step fixed_bytes without_count
  counted_written bytes word (x, y, e, a, b) = record {
    first = x;
    second = y;
    head = length bytes;
    bytes_are = e;
    first_written = allowed-natural (len s) x (length bytes) a;
    second_written = record { first = []; second = y; head = tt; bytes_are = refl; first_written = refl; second_written = (ap length b, sym b) };
  }

  written_counted : (bytes word : List ℕ) → (length_prefixed s).Written word bytes → Both (LengthWord s (length bytes)) (λ b. b ≡ bytes) word
  unfolding ◌>>=◌ step fixed_bytes without_count
  written_counted bytes word w =
      let u = w.second_written in
      let e : w.second ≡ u.second = u.bytes_are ∙ ap (λ z. z ++ u.second) u.first_written in
      let b : w.second ≡ bytes = e ∙ sym u.second_written.1 in
      let n : w.head ≡ length bytes = sym u.second_written.0 ∙ ap length (sym u.second_written.1) in
      (w.first, w.second, w.bytes_are, natural-allows (len s) w.first (length bytes) (subst ((len s).Written w.first) n w.first_written), b)

  -- what passes allows a word of its length, then its bytes
  pub tested-allows : (bytes word : List ℕ) → Is bytes → Both (LengthWord s (length bytes)) (λ b. b ≡ bytes) word → AllowedWord (IsBytes bytes) (tested s) word
  tested-allows bytes word u b =
      record { meaning = Bytes bytes; is_meant = refl; is_written = from_result-written test (length_prefixed s) word bytes (Bytes bytes) (passes bytes u) (counted_written bytes word b) }

  pub allowed-tested : (bytes word : List ℕ) → AllowedWord (IsBytes bytes) (tested s) word → Both (LengthWord s (length bytes)) (λ b. b ≡ bytes) word
  allowed-tested bytes word a =
      let p = written-from_result test (length_prefixed s) word a.meaning a.is_written in
      let e : Bytes bytes ≡ Bytes p.0 = sym a.is_meant ∙ passed p.0 a.meaning p.1 in
      let q : bytes ≡ p.0 = cc in
      written_counted bytes word (subst (λ z. (length_prefixed s).Written word z) (sym q) p.2)

  word_counted : (word bytes : List ℕ) (t : List Step) → (length_prefixed s).Word word bytes t → (x : List ℕ) × (u : List Step) × (word ≡ x ++ bytes) × (len s).Word x (length bytes) u
  unfolding ◌>>=◌ step fixed_bytes without_count
  word_counted word bytes t w =
      let u = w.second_word in
      let e : w.second ≡ u.second = u.bytes_are ∙ ap (λ z. z ++ u.second) u.first_word.0 in
      let b : w.second ≡ bytes = e ∙ sym u.second_word.1 in
      let n : w.head ≡ length bytes = sym u.second_word.0 ∙ ap length (sym u.second_word.1) in
      (w.first, w.first_steps, w.bytes_are ∙ ap (λ z. w.first ++ z) b, subst (λ z. (len s).Word w.first z w.first_steps) n w.first_word)

  -- the words that it allows have one length
  pub tested-one_length : (bytes : List ℕ) → length bytes < 2 ^ 64 → OneLength (AllowedWord (IsBytes bytes) (tested s))
  tested-one_length bytes h =
      same-one_length _ _ (allowed-tested bytes) (both-one_length (LengthWord s (length bytes)) (λ b. b ≡ bytes) (unsigned-spelled U64 8 (length bytes) s (omega (arith, h))).one_length
      (alone-one_length (λ b. b ≡ bytes) bytes (λ b e. e)))

  -- there is one
  pub tested-has_word : (bytes : List ℕ) → Is bytes → All (λ b. b < 256) bytes → length bytes < 2 ^ 64 → SomeWord (AllowedWord (IsBytes bytes) (tested s))
  tested-has_word bytes u below h =
      let a = (unsigned-spelled U64 8 (length bytes) s (omega (arith, h))).has_word in
      record {
        bytes = a.bytes ++ bytes;
        are_bytes = All-append (λ b. b < 256) a.bytes bytes a.are_bytes below;
        is_allowed = tested-allows bytes (a.bytes ++ bytes) u (a.bytes, bytes, refl, a.is_allowed, refl);
      }

  -- no word that decodes to what it means is shorter than one that is written for it
  pub tested-shortest : (bytes other : List ℕ) → IsShortest (IsBytes bytes) (IsBytes other) (tested s)
  tested-shortest bytes other written word m t w h u g =
      let a = allowed-tested bytes written (more-allowed (λ n p. p.0) written w) in
      let i = w.is_meant in
      let same : Bytes bytes ≡ Bytes other = sym i.0 ∙ i.1 in
      let p = word-from_result test (length_prefixed s) word m t u in
      let e : Bytes other ≡ Bytes p.0 = sym g ∙ passed p.0 m p.2 in
      let q : p.0 ≡ bytes = cc in
      let c = word_counted word bytes p.1 (subst (λ z. (length_prefixed s).Word word z p.1) q p.3) in
      parts-no_longer written word a.0 a.1 c.0 bytes a.2 c.2 h
      (λ below. unsigned-least U64 8 (length bytes) s a.0 c.0 c.1 below (allowed-natural (len s) a.0 (length bytes) a.3) c.3) (λ below. omega (arith, ap length a.4))

-- texts

settles_by : (test : Bool) (bytes : List ℕ) → FailsBeforeEnd {A = Meaning} (if test then Ok (Bytes bytes) else Err Utf8)
settles_by true bytes = tt
settles_by false bytes = λ h. h

-- texts are lawful
pub text-lawful : (s : Setting) → IsLawful (text s)
text-lawful s = test-lawful (length_prefixed s) text_of (length_prefixed-lawful s) (λ bytes. settles_by (is_utf8 bytes) bytes)

pub text-balanced : (s : Setting) → IsBalanced (text s)
text-balanced s = test-balanced (length_prefixed s) text_of (length_prefixed-balanced s)

-- UTF-8 passes the test
pub text_of-passes : (bytes : List ℕ) → IsUtf8 bytes → text_of bytes ≡ Ok (Bytes bytes)
text_of-passes bytes u = rw (is_utf8-from_IsUtf8 bytes u) refl

passed_by : (test : Bool) (bytes : List ℕ) (m : Meaning) → ◌≡◌ {A = Result Meaning Fault} (if test then Ok (Bytes bytes) else Err Utf8) (Ok m) → m ≡ Bytes bytes
passed_by true bytes m e = cc
passed_by false bytes m e = absurd (cc)

-- what passes means itself
pub text_of-passed : (bytes : List ℕ) (m : Meaning) → text_of bytes ≡ Ok m → m ≡ Bytes bytes
text_of-passed bytes m = passed_by (is_utf8 bytes) bytes m

-- UTF-8 is bytes
chars_are_bytes : (cs : List ℕ) → all_scalars cs ≡ true → All (λ b. b < 256) (encode_utf8_all cs)
chars_are_bytes [] h = All-nil (λ b. b < 256)
chars_are_bytes (c ∷ cs) h =
    let k = and_parts (scalar c) (all_scalars cs) h in
    let p = spelled c k.0 in
    let first : All (λ b. b < 256) (encode_utf8 c) = subst (All (λ b. b < 256)) (sym p.bytes_are) p.are_bytes in
    All-append (λ b. b < 256) (encode_utf8 c) (encode_utf8_all cs) first (chars_are_bytes cs k.1)

pub utf8-are_bytes : (bytes : List ℕ) → IsUtf8 bytes → All (λ b. b < 256) bytes
utf8-are_bytes bytes (cs, (h, e)) = subst (All (λ b. b < 256)) e (chars_are_bytes cs h)

module _ (s : Setting) where
  -- a text allows a word of its length, then its bytes
  pub text-allows : (bytes word : List ℕ) → IsUtf8 bytes → Both (LengthWord s (length bytes)) (λ b. b ≡ bytes) word → AllowedWord (IsBytes bytes) (text s) word
  text-allows = tested-allows text_of IsUtf8 text_of-passes text_of-passed s

  pub allowed-text : (bytes word : List ℕ) → AllowedWord (IsBytes bytes) (text s) word → Both (LengthWord s (length bytes)) (λ b. b ≡ bytes) word
  allowed-text = allowed-tested text_of IsUtf8 text_of-passes text_of-passed s

  -- the words that a text allows have one length
  pub text-one_length : (bytes : List ℕ) → length bytes < 2 ^ 64 → OneLength (AllowedWord (IsBytes bytes) (text s))
  text-one_length = tested-one_length text_of IsUtf8 text_of-passes text_of-passed s

  -- there is one
  pub text-has_word : (bytes : List ℕ) → IsUtf8 bytes → length bytes < 2 ^ 64 → SomeWord (AllowedWord (IsBytes bytes) (text s))
  text-has_word bytes u = tested-has_word text_of IsUtf8 text_of-passes text_of-passed s bytes u (utf8-are_bytes bytes u)

  -- some text has a word: the empty one
  pub text-some_word : HasWord (text s)
  text-some_word = cell-has_word (text s) (text-lawful s) _ (text-has_word [] ([], (refl, refl)) (omega arith))

  -- no word that decodes to what a text means is shorter than one that is written for it
  pub text-shortest : (bytes other : List ℕ) → IsShortest (IsBytes bytes) (IsBytes other) (text s)
  text-shortest = tested-shortest text_of IsUtf8 text_of-passes text_of-passed s

-- C strings

-- the test of a C string
abbrev pub nul_test : List ℕ → Result Meaning Fault
nul_test bytes = without_nul_of bytes (first_zero bytes)

settles_at : (bytes : List ℕ) (place : Option ℕ) → FailsBeforeEnd (without_nul_of bytes place)
settles_at bytes None = tt
settles_at bytes (Some n) = λ h. h

-- C strings are lawful
pub c_string-lawful : (s : Setting) → IsLawful (without_nul s)
c_string-lawful s = test-lawful (length_prefixed s) nul_test (length_prefixed-lawful s) (λ bytes. settles_at bytes (first_zero bytes))

pub c_string-balanced : (s : Setting) → IsBalanced (without_nul s)
c_string-balanced s = test-balanced (length_prefixed s) nul_test (length_prefixed-balanced s)

-- bytes without a zero pass the test as they are
pub nul_test-passes : (bytes : List ℕ) → HasNoZero bytes → nul_test bytes ≡ Ok (Bytes bytes)
nul_test-passes bytes e = rw e refl

passed_at : (bytes : List ℕ) (place : Option ℕ) (m : Meaning) → without_nul_of bytes place ≡ Ok m → m ≡ Bytes bytes
passed_at bytes None m e = cc
passed_at bytes (Some n) m e = absurd (cc)

-- what passes means itself
pub nul_test-passed : (bytes : List ℕ) (m : Meaning) → nul_test bytes ≡ Ok m → m ≡ Bytes bytes
nul_test-passed bytes m = passed_at bytes (first_zero bytes) m

module _ (s : Setting) where
  -- a C string allows a word of its length, then its bytes
  pub c_string-allows : (bytes word : List ℕ) → HasNoZero bytes → Both (LengthWord s (length bytes)) (λ b. b ≡ bytes) word → AllowedWord (IsBytes bytes) (without_nul s) word
  c_string-allows = tested-allows nul_test HasNoZero nul_test-passes nul_test-passed s

  pub allowed-c_string : (bytes word : List ℕ) → AllowedWord (IsBytes bytes) (without_nul s) word → Both (LengthWord s (length bytes)) (λ b. b ≡ bytes) word
  allowed-c_string = allowed-tested nul_test HasNoZero nul_test-passes nul_test-passed s

  -- the words that a C string allows have one length
  pub c_string-one_length : (bytes : List ℕ) → length bytes < 2 ^ 64 → OneLength (AllowedWord (IsBytes bytes) (without_nul s))
  c_string-one_length = tested-one_length nul_test HasNoZero nul_test-passes nul_test-passed s

  -- there is one
  pub c_string-has_word : (bytes : List ℕ) → HasNoZero bytes → All (λ b. b < 256) bytes → length bytes < 2 ^ 64 → SomeWord (AllowedWord (IsBytes bytes) (without_nul s))
  c_string-has_word = tested-has_word nul_test HasNoZero nul_test-passes nul_test-passed s

  -- some C string has a word: the empty one
  pub c_string-some_word : HasWord (without_nul s)
  c_string-some_word = cell-has_word (without_nul s) (c_string-lawful s) _ (c_string-has_word [] refl (All-nil (λ b. b < 256)) (omega arith))

  -- no word that decodes to what a C string means is shorter than one that is written for it
  pub c_string-shortest : (bytes other : List ℕ) → IsShortest (IsBytes bytes) (IsBytes other) (without_nul s)
  c_string-shortest = tested-shortest nul_test HasNoZero nul_test-passes nul_test-passed s

-- equality

-- texts of one meaning have equal bytes
pub text-same : (x y : List ℕ) (m : Meaning) → IsBytes x m → IsBytes y m → x ≡ y
text-same x y m a b = let e : Bytes x ≡ Bytes y = sym a ∙ b in cc

-- and are equal
pub text-alike : (x y : List ℕ) (m : Meaning) → IsBytes x m → IsBytes y m → pointwise nat_eq x y ≡ true
text-alike x y m a b = (bytes_decides x y).1 (text-same x y m a b)
