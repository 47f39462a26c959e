-- Durations are lawful; the words that they allow.
use Rattle.std.specs.Prelude.{◌≡◌, ℕ, ◌+◌, ◌*◌, ◌/◌, ◌%◌, ◌<◌, ◌≤◌, ◌^◌, nat_lt, nat_eq, if◌then◌else◌, pos, Bool, true, false, Result, Ok, Err, List, [], ◌∷◌, ◌++◌, refl}
use Rattle.std.proofs.Common.{sym, ◌∙◌, ap, subst, arith, eq-eqb}
use Rattle.std.proofs.lemmas.Bool.{lt-ltb, le-ltb}
use Rattle.std.proofs.lemmas.List.Elements.{All-append}
use Rattle.bincode_base.specs.declared.error.IntegerType.TheVariants as integers
use Rattle.bincode_base.specs.Setting.{Setting}
use Rattle.bincode_spec.specs.Fault.{Fault, InvalidDuration}
use Rattle.bincode_spec.specs.Format.{◌>>=◌, from_result, written_as}
use Rattle.bincode_spec.specs.Layers.Laws.{IsLawful, IsBalanced}
use Rattle.bincode_lemmas.specs.FormatLaws.{FailsBeforeEnd, turn-lawful, test-lawful, map-lawful, rewritten-lawful}
use Rattle.bincode_lemmas.specs.Balance.{turn-holds, test-balanced, map-balanced, rewritten-holds}
use Rattle.bincode_spec.specs.Integers.{unsigned_integer}
use Rattle.bincode_spec.specs.Integers.{Four, Eight}
use Rattle.bincode_lemmas.specs.IntegerLaws.{unsigned-lawful, unsigned-balanced}
use Rattle.bincode_spec.specs.Meaning.{Meaning, Number, list_meaning, IsNumber, IsThen, IsNothing}
use Rattle.bincode_spec.specs.Words.{natural_number, second_in_nanos, duration_of, seconds_and_nanos, duration}
use Rattle.bincode_spec.specs.Allowed.{AllowedWord, SomeWord}
use Rattle.bincode_lemmas.specs.Sequences.{Both}
use Rattle.bincode_spec.specs.Cells.{HasWord}
use Rattle.bincode_lemmas.specs.CellLaws.{cell-has_word}
use Rattle.bincode_lemmas.specs.AllowedLaws.{map-written, written-map, natural-allows, allowed-natural}
use Rattle.bincode_lemmas.specs.SpelledLaws.{from_result-word, unsigned-spelled}

settles_by : (seconds nanos : ℕ) (m : Meaning) (fits : Bool) → FailsBeforeEnd {A = Meaning} (if fits then Ok m else Err (InvalidDuration seconds nanos))
settles_by seconds nanos m true = tt
settles_by seconds nanos m false = λ h. h

module _ (s : Setting) where
  pub parts-lawful : IsLawful (seconds_and_nanos s)
  parts-lawful =
      turn-lawful _ _ (unsigned-lawful integers.U64 8 s (Eight refl)) (λ seconds. map-lawful (λ nanos. (seconds, nanos)) (unsigned_integer integers.U32 4 s) (unsigned-lawful integers.U32 4 s (Four refl)))

  parts_balanced : IsBalanced (seconds_and_nanos s)
  parts_balanced = turn-holds 0 0 0 _ _ (unsigned-balanced integers.U64 8 s) (λ seconds. map-balanced (λ nanos. (seconds, nanos)) (unsigned_integer integers.U32 4 s) (unsigned-balanced integers.U32 4 s))

  -- durations are lawful
  pub duration-lawful : IsLawful (duration s)
  duration-lawful =
      rewritten-lawful _ (seconds_and_nanos s >>= λ parts. from_result (duration_of parts.0 parts.1))
      (test-lawful (seconds_and_nanos s) (λ parts. duration_of parts.0 parts.1) parts-lawful (λ parts. settles_by parts.0 parts.1 _ _))
      (λ word m h. let p = parts-lawful.written_is_word word h.0 h.3 in (p.0, from_result-word (λ parts. duration_of parts.0 parts.1) (seconds_and_nanos s) word h.0 m p.0 h.2 p.1))

  pub duration-balanced : IsBalanced (duration s)
  duration-balanced = rewritten-holds 0 0 _ _ (test-balanced (seconds_and_nanos s) (λ parts. duration_of parts.0 parts.1) parts_balanced)

-- what seconds and nanoseconds mean together
abbrev pub IsSpan : ℕ → ℕ → Meaning → Type 0
IsSpan seconds nanos = IsThen (IsNumber (pos seconds)) (IsThen (IsNumber (pos nanos)) IsNothing)

-- this span
abbrev pub span : ℕ → ℕ → Meaning
span seconds nanos = list_meaning (Number (pos seconds) ∷ Number (pos nanos) ∷ [])

pub span-is : (seconds nanos : ℕ) → IsSpan seconds nanos (span seconds nanos)
span-is seconds nanos = record {
  first = Number (pos seconds);
  others = list_meaning (Number (pos nanos) ∷ []);
  meaning_is = refl;
  is_first = refl;
  are_others = record { first = Number (pos nanos); others = list_meaning []; meaning_is = refl; is_first = refl; are_others = refl };
}

is_span : (seconds nanos : ℕ) (m : Meaning) → IsSpan seconds nanos m → m ≡ span seconds nanos
is_span seconds nanos m h =
    let k = h.are_others in
    cc (h.meaning_is, h.is_first, k.meaning_is, k.is_first, k.are_others)

-- spans of one meaning are equal
pub span-same : (a b c d : ℕ) (m : Meaning) → IsSpan a b m → IsSpan c d m → nat_eq (a * second_in_nanos + b) (c * second_in_nanos + d) ≡ true
span-same a b c d m p q =
    let e : span a b ≡ span c d = sym (is_span a b m p) ∙ is_span c d m q in
    let h : a ≡ c = cc in
    let k : b ≡ d = cc in
    eq-eqb (a * second_in_nanos + b) (c * second_in_nanos + d) (rw (h, k) refl)

module _ (seconds nanos : ℕ) where
  -- whole seconds are carried
  pub carries : seconds + nanos / second_in_nanos < 2 ^ 64 → duration_of seconds nanos ≡ Ok (span (seconds + nanos / second_in_nanos) (nanos % second_in_nanos))
  carries h = rw (lt-ltb (seconds + nanos / second_in_nanos) (2 ^ 64) h) refl

  -- too many are refused
  pub overflows : 2 ^ 64 ≤ seconds + nanos / second_in_nanos → duration_of seconds nanos ≡ Err (InvalidDuration seconds nanos)
  overflows h = rw (le-ltb (seconds + nanos / second_in_nanos) (2 ^ 64) h) refl

  carried_by : (m n : Meaning) (fits : Bool) → ◌≡◌ {A = Result Meaning Fault} (if fits then Ok m else Err (InvalidDuration seconds nanos)) (Ok n) → m ≡ n
  carried_by m n true e = cc
  carried_by m n false e = absurd (cc)

  -- less than a second of nanoseconds is kept
  kept : nanos < second_in_nanos → span (seconds + nanos / second_in_nanos) (nanos % second_in_nanos) ≡ span seconds nanos
  kept h =
      let p : seconds + nanos / second_in_nanos ≡ seconds = omega arith in
      let q : nanos % second_in_nanos ≡ nanos = omega arith in
      rw (p, q) refl

  keeps : seconds < 2 ^ 64 → nanos < second_in_nanos → duration_of seconds nanos ≡ Ok (span seconds nanos)
  keeps h k = carries (omega arith) ∙ ap Ok (kept k)

  pub kept-as : (m : Meaning) → nanos < second_in_nanos → duration_of seconds nanos ≡ Ok m → span seconds nanos ≡ m
  kept-as m h e = sym (kept h) ∙ carried_by _ m (nat_lt (seconds + nanos / second_in_nanos) (2 ^ 64)) e

module _ (s : Setting) (seconds nanos : ℕ) where
  -- a span allows what its seconds and its nanoseconds do in turn
  pub duration-allows : seconds < 2 ^ 64 → nanos < second_in_nanos → (bytes : List ℕ) →
      Both (AllowedWord (IsNumber (pos seconds)) (natural_number (unsigned_integer integers.U64 8 s))) (AllowedWord (IsNumber (pos nanos)) (natural_number (unsigned_integer integers.U32 4 s))) bytes →
      AllowedWord (IsSpan seconds nanos) (duration s) bytes
  unfolding written_as ◌>>=◌
  duration-allows h k bytes (x, y, e, a, b) =
      let p = allowed-natural (unsigned_integer integers.U64 8 s) x seconds a in
      let q = allowed-natural (unsigned_integer integers.U32 4 s) y nanos b in
      record {
        meaning = span seconds nanos;
        is_meant = span-is seconds nanos;
        is_written = (
          (seconds, nanos),
          k,
          keeps seconds nanos h k,
          record {
            first = x;
            second = y;
            head = seconds;
            bytes_are = e;
            first_written = p;
            second_written = map-written
                (λ n. (seconds, n)) (unsigned_integer integers.U32 4 s) y nanos q;
          },
        );
      }

  pub allowed-duration : (bytes : List ℕ) → AllowedWord (IsSpan seconds nanos) (duration s) bytes →
      Both (AllowedWord (IsNumber (pos seconds)) (natural_number (unsigned_integer integers.U64 8 s))) (AllowedWord (IsNumber (pos nanos)) (natural_number (unsigned_integer integers.U32 4 s))) bytes
  unfolding written_as ◌>>=◌
  allowed-duration bytes w =
      let parts = w.is_written.0 in
      let u = w.is_written.3 in
      let t = written-map (λ n. (u.head, n)) (unsigned_integer integers.U32 4 s) u.second parts u.second_written in
      let e : span parts.0 parts.1 ≡ span seconds nanos = kept-as parts.0 parts.1 w.meaning w.is_written.1 w.is_written.2 ∙ is_span seconds nanos w.meaning w.is_meant in
      let a : parts.0 ≡ seconds = cc in
      let b : parts.1 ≡ nanos = cc in
      let c : u.head ≡ seconds = sym (ap (λ p. p.0) t.1) ∙ a in
      let d : t.0 ≡ nanos = sym (ap (λ p. p.1) t.1) ∙ b in
      let p : (unsigned_integer integers.U64 8 s).Written u.first seconds = subst (λ n. (unsigned_integer integers.U64 8 s).Written u.first n) c u.first_written in
      let q : (unsigned_integer integers.U32 4 s).Written u.second nanos = subst (λ n. (unsigned_integer integers.U32 4 s).Written u.second n) d t.2 in
      (u.first, u.second, u.bytes_are, natural-allows (unsigned_integer integers.U64 8 s) u.first seconds p, natural-allows (unsigned_integer integers.U32 4 s) u.second nanos q)

-- less than a second of nanoseconds fits four bytes
pub nanos-fit : (nanos : ℕ) → nanos < second_in_nanos → nanos < 256 ^ 4
nanos-fit nanos h = omega (arith, h)

-- a span has a word of bytes
pub duration-has_word : (s : Setting) (seconds nanos : ℕ) → seconds < 2 ^ 64 → nanos < second_in_nanos → SomeWord (AllowedWord (IsSpan seconds nanos) (duration s))
duration-has_word s seconds nanos h k =
    let x = (unsigned-spelled integers.U64 8 seconds s h).has_word in
    let y = (unsigned-spelled integers.U32 4 nanos s (nanos-fit nanos k)).has_word in
    record {
      bytes = x.bytes ++ y.bytes;
      are_bytes = All-append (λ b. b < 256) x.bytes y.bytes x.are_bytes y.are_bytes;
      is_allowed = duration-allows s seconds nanos h k (x.bytes ++ y.bytes) (x.bytes, y.bytes, refl, x.is_allowed, y.is_allowed);
    }

pub duration-some_word : (s : Setting) → HasWord (duration s)
duration-some_word s = cell-has_word (duration s) (duration-lawful s) (IsSpan 0 0) (duration-has_word s 0 0 (omega arith) (omega arith))
