-- A `NonZero` integer is decoded as the integer, and 0 is refused.
use Rattle.std.specs.Prelude.{◌≡◌, ◌<◌, ◌==◌, if◌then◌else◌, ℕ, unsigned_abs, Bool, true, false, Result, Ok, Err, List, Option, Some, None, refl}
use Rattle.std.specs.Borrow.{GName}
use Rattle.std.specs.Option.{MatchOption, ok_or}
use Rattle.std.proofs.Common.{sym, ◌∙◌, ap, arith}
use Rattle.std.proofs.lemmas.Bool.{ne_eqb}
use Rattle.bincode_base.specs.declared.error.IntegerType.{IntegerType}
use Rattle.bincode_base.specs.declared.error.DecodeError.{DecodeError}
use Rattle.bincode_base.specs.declared.error.DecodeError.TheVariants.{NonZeroTypeIsZero}
use Rattle.bincode_spec.specs.Device.{DeviceErrors}
use Rattle.bincode_spec.specs.Fault.{Zero}
use Rattle.bincode_spec.specs.Format.{Format, from_result, pure, map_format}
use Rattle.bincode_spec.specs.Layers.Laws.{IsLawful}
use Rattle.bincode_lemmas.specs.FormatLaws.{map-lawful}
use Rattle.bincode_spec.specs.Meaning.{Meaning, Number}
use Rattle.bincode_spec.specs.Words.{not_zero_of, not_zero_by}
use Rattle.bincode_spec.specs.Answer.{Answer, answer, Gave, Refused, PassedLimit}
use Rattle.bincode_lemmas.specs.Sequences.{and_then}
use Rattle.bincode_lemmas.specs.AnswerLaws.{answer-then, answer-pure, answer-fail}
use Rattle.bincode_spec.specs.Decoding.{DecodeFailure, by_fault, by_limit, by_memory, by_failure, by_device}
use Rattle.bincode_lemmas.specs.DecodingLaws.{gave-takes}
use Rattle.bincode_spec.specs.Layers.Values.{Reads}
use Rattle.bincode_decoder.proofs.ReadAnswers.{read-as}

-- an answer with its meaning mapped
abbrev renamed : {A B : Type 0} → (A → B) → Answer A → Answer B
renamed f (Gave a r d) = Gave (f a) r d
renamed f (Refused why d) = Refused why d
renamed f PassedLimit = PassedLimit

-- the absolute value of a number, from its meaning
abbrev pub size_of : Meaning → ℕ
size_of (Number z) = unsigned_abs z
size_of m = 1

-- the answer with 0 refused
abbrev tested : IntegerType → Answer Meaning → Answer Meaning
tested name (Gave m r d) = if size_of m == 0 then Refused (Zero name) d else Gave m r d
tested name (Refused why d) = Refused why d
tested name PassedLimit = PassedLimit

tested_stop :
    (name : IntegerType) (end_error : ℕ → DecodeError → Type 0) (device : DeviceErrors) (H : Type 0) (before after : ℕ) (input remaining : List ℕ) {now : ℕ} (e : DecodeError) (a : Answer Meaning) →
    DecodeFailure end_error device H a before after input remaining now e → DecodeFailure end_error device H (tested name a) before after input remaining now e
tested_stop name end_error device H before after input remaining e a (by_fault why h t k) = by_fault why (ap (tested name) h) t k
tested_stop name end_error device H before after input remaining e a (by_limit h t k) = by_limit (ap (tested name) h) t k
tested_stop name end_error device H before after input remaining e a (by_memory h t k) = by_memory h t k
tested_stop name end_error device H before after input remaining e a (by_failure d h k) = by_failure d h k
tested_stop name end_error device H before after input remaining e a (by_device h) = by_device h

module _ {A : Type 0} (f : A → Meaning) (size : A → ℕ) (name : IntegerType) (same : (a : A) → size_of (f a) ≡ size a) where
  module _ (limit : Option ℕ) (F : Format A) (input : List ℕ) (c : ℕ) where
    mapped : {B : Type 0} (G : Format A) (h : A → B) → answer limit (map_format h G) input c ≡ renamed h (answer limit G input c)
    mapped G h = answer-then limit G (λ z. pure (h z)) input c ∙ each (answer limit G input c)
      where
        each : (a : Answer A) → and_then a (λ z r d. answer limit (pure (h z)) r d) ≡ renamed h a
        each (Gave a r d) = answer-pure limit (h a) r d
        each (Refused why d) = refl
        each PassedLimit = refl

    by_size : answer limit (map_format f (not_zero_by size name F)) input c ≡ tested name (answer limit (map_format f F) input c)
    by_size =
        mapped (not_zero_by size name F) f
        ∙ ap (renamed f) (answer-then limit F (λ a. from_result (not_zero_of name (size a) a)) input c)
        ∙ each (answer limit F input c)
        ∙ ap (tested name) (sym (mapped F f))
      where
        chosen : (a : A) (r : List ℕ) (d : ℕ) (zero : Bool) → renamed f (answer limit (from_result (if zero then Err (Zero name) else Ok a)) r d) ≡ (if zero then Refused (Zero name) d else Gave (f a) r d)
        chosen a r d true = ap (renamed f) (answer-fail limit (Zero name) r d)
        chosen a r d false = ap (renamed f) (answer-pure limit a r d)

        each : (a : Answer A) → renamed f (and_then a (λ v r d. answer limit (from_result (not_zero_of name (size v) v)) r d)) ≡ tested name (renamed f a)
        each (Gave a r d) = rw (same a) (chosen a r d (size a == 0))
        each (Refused why d) = refl
        each PassedLimit = refl

    -- 0 was read
    was_zero : (m : Meaning) (remaining : List ℕ) (d : ℕ) → answer limit (map_format f F) input c ≡ Gave m remaining d → size_of m ≡ 0 →
        answer limit (map_format f (not_zero_by size name F)) input c ≡ Refused (Zero name) d
    was_zero m remaining d e z = by_size ∙ ap (tested name) e ∙ rw z refl

    -- another number was
    was_number : (m : Meaning) (remaining : List ℕ) (d : ℕ) → answer limit (map_format f F) input c ≡ Gave m remaining d → 0 < size_of m →
        answer limit (map_format f (not_zero_by size name F)) input c ≡ Gave m remaining d
    was_number m remaining d e p = by_size ∙ ap (tested name) e ∙ rw (ne_eqb (size_of m) 0 (λ z. omega (arith, z, p))) refl

  module _ {D T : Type 0} {is_known : D → Type 0} {remaining : D → List ℕ} {charge failures : D → ℕ} {loans : D → List GName} {limit : Option ℕ}
      {end_error : ℕ → DecodeError → Type 0} {device : DeviceErrors} (F : Format A) {decodes_to : Meaning → A → Type 0} {other : Meaning → T → Type 0}
      {start : ℕ} {old new : D} where
    -- if decoding the integer fails, so does decoding the `NonZero` one
    pub stops-too : (e : DecodeError) → Reads is_known remaining charge failures loans limit end_error device ⊥ (map_format f F) decodes_to start (Err e) old new →
        Reads is_known remaining charge failures loans limit end_error device ⊥ (map_format f (not_zero_by size name F)) other start (Err e) old new
    stops-too e read =
        read-as (λ known. tt)
        (λ known. rw (by_size limit F (remaining old) start) (tested_stop name end_error device ⊥ (failures old) (failures new) (remaining old) (remaining new) e
        (answer limit (map_format f F) (remaining old) start) (read.err known))) (λ _. tt) read

    -- otherwise the integer is tested
    pub read-tested : (get : T → A) (zero n k : A) (number : Option T) (r : Result T DecodeError) → size zero ≡ 0 → IsLawful F →
        ((x : T) → 0 < size (get x)) → ((m : Meaning) → decodes_to m n → m ≡ f n) → ((x : T) (m : Meaning) → m ≡ f (get x) → other m x) →
        k ≡ n → MatchOption number (k ≡ zero) (λ x. get x ≡ k) → r ≡ ok_or number (NonZeroTypeIsZero name) →
        Reads is_known remaining charge failures loans limit end_error device ⊥ (map_format f F) decodes_to start (Ok n) old new →
        Reads is_known remaining charge failures loans limit end_error device ⊥ (map_format f (not_zero_by size name F)) other start r old new
    read-tested get zero n k (Some x) r z l above is gives number-same made result read =
        rw result
        (read-as
        (λ known.
        let d = read.ok known in
        let e : d.meaning ≡ f n = is d.meaning d.is_decoded in
        let e' : size_of d.meaning ≡ size (get x) = ap size_of e ∙ same n ∙ ap size (sym (made ∙ number-same)) in
        let p = above x in
        record {
          meaning = d.meaning;
          answer_is = was_number limit F (remaining old) start d.meaning (remaining new) (charge new) d.answer_is (omega (arith, e', p));
          is_decoded = gives x d.meaning
              (e ∙ ap f (sym (made ∙ number-same)));
        })
        (λ known. tt)
        read.within
        read)
    read-tested get zero n k None r z l above is gives number-same made result read =
        rw result
        (read-as
        (λ known. tt)
        (λ known.
        let d = read.ok known in
        let e' : size_of d.meaning ≡ 0 = ap size_of (is d.meaning d.is_decoded) ∙ same n ∙ ap size (sym number-same ∙ made) ∙ z in
        by_fault (Zero name) (was_zero limit F (remaining old) start d.meaning (remaining new) (charge new) d.answer_is e') refl
        (gave-takes limit (map_format f F) (map-lawful f F l) (remaining old) start d.meaning (remaining new) (charge new) d.answer_is))
        (λ _. tt)
        read)
