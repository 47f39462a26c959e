-- The number that a list begins with, and the claim that is released before an item.
use Rattle.std.specs.Prelude.{◌≡◌, ℕ, pos, List, Option, Result, refl}
use Rattle.std.specs.Borrow.{GName}
use Rattle.std.proofs.Common.{◌∙◌, sym}
use Rattle.std.proofs.lemmas.Result.{IfOk-weaker, IfErr-weaker}
use Rattle.bincode_base.specs.declared.error.DecodeError.{DecodeError}
use Rattle.bincode_spec.specs.Device.{DeviceErrors}
use Rattle.bincode_spec.specs.Fault.{Fault}
use Rattle.bincode_spec.specs.Format.{Format, pure, map_format}
use Rattle.bincode_spec.specs.Meaning.{Meaning, Number, IsNumber}
use Rattle.bincode_spec.specs.Answer.{Answer, answer, Gave, Refused, PassedLimit, after_release}
use Rattle.bincode_lemmas.specs.Sequences.{and_then}
use Rattle.bincode_spec.specs.Layers.Claims.{MakesRelease}
use Rattle.bincode_spec.specs.Decoding.{Decodes, DecodeFailure, by_fault, by_limit, by_memory, by_failure, by_device}
use Rattle.bincode_spec.specs.Layers.Values.{Reads}
use Rattle.bincode_lemmas.specs.AnswerLaws.{answer-then, answer-pure}
use Rattle.bincode_decoder.proofs.ReadAnswers.{read-as}

-- what a number means
abbrev number : ℕ → Meaning
number n = Number (pos n)

module _ (limit : Option ℕ) where
  -- an answer whose meaning is a number
  abbrev named : Answer ℕ → Answer Meaning
  named x = and_then x (λ n remaining after. answer limit (pure (number n)) remaining after)

  named-gave : (x : Answer ℕ) (v : ℕ) (remaining : List ℕ) (d : ℕ) → named x ≡ Gave (number v) remaining d → x ≡ Gave v remaining d
  named-gave (Gave n r after) v remaining d e = let k : Gave (number n) r after ≡ Gave (number v) remaining d = sym (answer-pure limit (number n) r after) ∙ e in cc
  named-gave (Refused why c) v remaining d e = absurd (cc)
  named-gave PassedLimit v remaining d e = absurd (cc)

  named-refused : (x : Answer ℕ) (why : Fault) (d : ℕ) → named x ≡ Refused why d → x ≡ Refused why d
  named-refused (Gave n r after) why d e = let k : Gave (number n) r after ≡ Refused why d = sym (answer-pure limit (number n) r after) ∙ e in absurd (cc)
  named-refused (Refused w c) why d e = cc
  named-refused PassedLimit why d e = absurd (cc)

  named-passed : (x : Answer ℕ) → named x ≡ PassedLimit → x ≡ PassedLimit
  named-passed (Gave n r after) e = let k : Gave (number n) r after ≡ PassedLimit = sym (answer-pure limit (number n) r after) ∙ e in absurd (cc)
  named-passed (Refused w c) e = absurd (cc)
  named-passed PassedLimit e = refl

  module _ (F : Format ℕ) (input : List ℕ) (c : ℕ) where
    length-decodes : (v : ℕ) (remaining : List ℕ) (d : ℕ) → Decodes (IsNumber (pos v)) (answer limit (map_format number F) input c) remaining d →
        Decodes (λ n. n ≡ v) (answer limit F input c) remaining d
    length-decodes v remaining d h = record {
      meaning = v;
      answer_is = named-gave (answer limit F input c) v remaining d (sym (answer-then limit F (λ n. pure (number n)) input c) ∙ rw h.is_decoded at h.answer_is);
      is_decoded = refl;
    }

    length-stops : (end_error : ℕ → DecodeError → Type 0) (device : DeviceErrors) (H : Type 0) (before after : ℕ) (remaining : List ℕ) {now : ℕ} (e : DecodeError) →
        DecodeFailure end_error device H (answer limit (map_format number F) input c) before after input remaining now e →
        DecodeFailure end_error device H (answer limit F input c) before after input remaining now e
    length-stops end_error device H before after remaining e (by_fault why h t k) =
        by_fault why (named-refused (answer limit F input c) why _ (sym (answer-then limit F (λ n. pure (number n)) input c) ∙ h)) t k
    length-stops end_error device H before after remaining e (by_limit h t k) =
        by_limit (named-passed (answer limit F input c) (sym (answer-then limit F (λ n. pure (number n)) input c) ∙ h)) t k
    length-stops end_error device H before after remaining e (by_memory h t k) = by_memory h t k
    length-stops end_error device H before after remaining e (by_failure d h k) = by_failure d h k
    length-stops end_error device H before after remaining e (by_device h) = by_device h

module _ {D : Type 0} {is_known : D → Type 0} {remaining : D → List ℕ} {charge failures : D → ℕ} {loans : D → List GName} {limit : Option ℕ}
    {end_error : ℕ → DecodeError → Type 0} {device : DeviceErrors} {G : Type 0} where
  -- a number that was read is the length of what follows
  pub length-read : {F : Format ℕ} {start : ℕ} (r : Result ℕ DecodeError) {old new : D} →
      Reads is_known remaining charge failures loans limit end_error device G (map_format number F) (λ m v. IsNumber (pos v) m) start r old new →
      Reads is_known remaining charge failures loans limit end_error device G F (λ n v. n ≡ v) start r old new
  length-read {F = F} r read =
      read-as
      (λ known. IfOk-weaker r _ _ (λ v d. length-decodes limit F _ _ v _ _ d) (read.ok known))
      (λ known. IfErr-weaker r _ _ (λ e s. length-stops limit F _ _ end_error device G _ _ _ e s) (read.err known))
      read.within
      read

  -- an item is decoded after its claim is released
  pub item-read : {R C T : Type 0} {reader_of : D → R} {context_of : D → C} {format : Format Meaning} {decodes_to : Meaning → T → Type 0} {n claim : ℕ}
      {r : Result T DecodeError} {old middle new : D} →
      MakesRelease is_known remaining charge failures reader_of context_of loans limit n old middle → n ≡ claim →
      Reads is_known remaining charge failures loans limit end_error device G format decodes_to (charge middle) r middle new →
      Reads is_known remaining charge failures loans limit end_error device G format decodes_to (after_release limit (charge old) claim) r old new
  item-read before same read = record {
    ok = λ known. rw (before.kept.same_remaining, before.released, same) at (read.ok (before.kept.tells known));
    err = λ known. rw (before.kept.same_remaining, before.released, before.kept.same_failures, same) at (read.err (before.kept.tells known));
    failures_monotone = rw before.kept.same_failures at read.failures_monotone;
    tells = λ known. read.tells (before.kept.tells known);
    charge_kept = rw (before.released, same) at read.charge_kept;
    within = rw (before.released, same) at read.within;
    same_loans = read.same_loans ∙ before.kept.same_loans;
  }
