-- Decoding a `Duration`.
use Rattle.std.specs.Prelude.{◌≡◌, ℕ, ◌+◌, ◌/◌, ◌%◌, ◌<◌, ◌≤◌, ◌^◌, List, Option, Some, None, is_some, SomeIff, true, false}
use Rattle.std.proofs.Common.{◌∙◌, sym, ap, refl, arith}
use Rattle.std.proofs.lemmas.Bool.{true≢false, false≢true}
use Rattle.bincode_base.specs.declared.error.IntegerType.TheVariants as integers
use Rattle.bincode_spec.specs.Device.{DeviceErrors}
use Rattle.bincode_base.specs.declared.error.DecodeError.{DecodeError}
use Rattle.bincode_base.specs.declared.error.DecodeError.TheVariants as errors
use Rattle.bincode_base.specs.Setting.{Setting}
use Rattle.bincode_spec.specs.Fault.{InvalidDuration}
use Rattle.bincode_spec.specs.Format.{◌>>=◌, from_result, map_format}
use Rattle.bincode_spec.specs.Integers.{unsigned_integer}
use Rattle.bincode_spec.specs.Integers.{Eight}
use Rattle.bincode_lemmas.specs.IntegerLaws.{unsigned-lawful}
use Rattle.bincode_spec.specs.Words.{second_in_nanos, duration_of, seconds_and_nanos, duration}
use Rattle.bincode_lemmas.specs.DurationLaws.{IsSpan, span, span-is, carries, overflows, parts-lawful}
use Rattle.bincode_spec.specs.Answer.{Gave, Refused, answer}
use Rattle.bincode_spec.specs.Decoding.{Decodes, DecodeFailure, by_fault}
use Rattle.bincode_lemmas.specs.DecodingLaws.{answer-next, map-gave, map-stops, from_result-gave, from_result-refused, gave-takes, stops-first, stops-next}
use Rattle.bincode_decoder.proofs.WrittenAs.{rewritten-answer}

-- a checked sum is one that fits
pub some-below : (o : Option ℕ) (n : ℕ) → SomeIff o (n < 2 ^ 64) n → is_some o ≡ true → n < 2 ^ 64
some-below None n h e = absurd (false≢true e)
some-below (Some m) n h e = h.0

pub none-above : (o : Option ℕ) (n : ℕ) → SomeIff o (n < 2 ^ 64) n → is_some o ≡ false → 2 ^ 64 ≤ n
none-above None n h e = omega (arith, h)
none-above (Some m) n h e = absurd (true≢false e)

module _ (limit : Option ℕ) (s : Setting) (input : List ℕ) (c : ℕ) where
  in_parts : answer limit (duration s) input c ≡ answer limit (seconds_and_nanos s >>= λ parts. from_result (duration_of parts.0 parts.1)) input c
  in_parts = rewritten-answer _ (seconds_and_nanos s >>= λ parts. from_result (duration_of parts.0 parts.1)) limit input c

  module _ (seconds nanos : ℕ) (middle remaining : List ℕ) (d after : ℕ) (a : answer limit (unsigned_integer integers.U64 8 s) input c ≡ Gave seconds middle d)
      (b : answer limit (unsigned_integer integers.U32 4 s) middle d ≡ Gave nanos remaining after) where
    parts_gave : answer limit (seconds_and_nanos s) input c ≡ Gave (seconds, nanos) remaining after
    parts_gave =
        answer-next limit (unsigned_integer integers.U64 8 s) (λ k. map_format (λ n. (k, n)) (unsigned_integer integers.U32 4 s)) input c seconds middle d a
        ∙ map-gave (λ n. (seconds, n)) limit (unsigned_integer integers.U32 4 s) middle d nanos remaining after b

    -- the result has the seconds and nanoseconds, with whole seconds carried
    pub span-decodes : (x y : ℕ) → seconds + nanos / second_in_nanos < 2 ^ 64 → x ≡ seconds + nanos / second_in_nanos → y ≡ nanos % second_in_nanos →
        Decodes (IsSpan x y) (answer limit (duration s) input c) remaining after
    span-decodes x y h p q = record {
      meaning = span (seconds + nanos / second_in_nanos) (nanos % second_in_nanos);
      answer_is = in_parts ∙ from_result-gave (λ parts. duration_of parts.0 parts.1) limit (seconds_and_nanos s) input c (seconds, nanos) remaining after
          (span (seconds + nanos / second_in_nanos) (nanos % second_in_nanos)) parts_gave (carries seconds nanos h);
      is_decoded = rw (p, q) (span-is (seconds + nanos / second_in_nanos) (nanos % second_in_nanos));
    }

    -- too many seconds are refused
    pub span-overflows : (end_error : ℕ → DecodeError → Type 0) (device : DeviceErrors) (H : Type 0) (before last : ℕ) {now : ℕ} → now ≡ after → 2 ^ 64 ≤ seconds + nanos / second_in_nanos →
        DecodeFailure end_error device H (answer limit (duration s) input c) before last input remaining now (errors.InvalidDuration seconds nanos)
    span-overflows end_error device H before last still h =
        by_fault (InvalidDuration seconds nanos)
        (in_parts ∙ from_result-refused (λ parts. duration_of parts.0 parts.1) limit (seconds_and_nanos s) input c (seconds, nanos) remaining after (InvalidDuration seconds nanos) parts_gave
        (overflows seconds nanos h)
        ∙ ap (Refused (InvalidDuration seconds nanos)) (sym still))
        refl
        (gave-takes limit (seconds_and_nanos s) (parts-lawful s) input c (seconds, nanos) remaining after parts_gave)

  module _ (end_error : ℕ → DecodeError → Type 0) (device : DeviceErrors) (H : Type 0) (before after : ℕ) (remaining : List ℕ) {now : ℕ} (e : DecodeError) where
    parts_stop : DecodeFailure end_error device H (answer limit (seconds_and_nanos s) input c) before after input remaining now e → DecodeFailure end_error device H (answer limit (duration s) input c) before after input remaining now e
    parts_stop h = rw in_parts (stops-first end_error device H H (λ k. k) limit (seconds_and_nanos s) (λ parts. from_result (duration_of parts.0 parts.1)) input c before after remaining e h)

    -- reading the seconds fails
    pub span-stops_first : DecodeFailure end_error device H (answer limit (unsigned_integer integers.U64 8 s) input c) before after input remaining now e →
        DecodeFailure end_error device H (answer limit (duration s) input c) before after input remaining now e
    span-stops_first h = parts_stop (stops-first end_error device H H (λ k. k) limit (unsigned_integer integers.U64 8 s) (λ k. map_format (λ n. (k, n)) (unsigned_integer integers.U32 4 s)) input c before after remaining e h)

    -- reading the nanoseconds fails
    pub span-stops_next : (seconds : ℕ) (middle : List ℕ) (d between : ℕ) → answer limit (unsigned_integer integers.U64 8 s) input c ≡ Gave seconds middle d → before ≤ between →
        DecodeFailure end_error device H (answer limit (unsigned_integer integers.U32 4 s) middle d) between after middle remaining now e → DecodeFailure end_error device H (answer limit (duration s) input c) before after input remaining now e
    span-stops_next seconds middle d between a le h =
        parts_stop
        (stops-next end_error device H H (λ k. k) limit (unsigned_integer integers.U64 8 s) (λ k. map_format (λ n. (k, n)) (unsigned_integer integers.U32 4 s))
        (unsigned-lawful integers.U64 8 s (Eight refl)) input c before between after seconds middle remaining d e a le
        (map-stops (λ n. (seconds, n)) end_error device H limit (unsigned_integer integers.U32 4 s) middle d between after remaining e h))
