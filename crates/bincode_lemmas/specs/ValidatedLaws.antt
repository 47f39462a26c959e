-- Values that passed a test have the laws of the values tested.
use Rattle.std.specs.Prelude.{◌≡◌, ℕ, Bool, true, false, if◌then◌else◌, Result, Ok, Err, Some, None, List, refl}
use Rattle.std.proofs.Common.{subst}
use Rattle.bincode_base.specs.declared.error.DecodeError.{DecodeError}
use Rattle.bincode_spec.specs.Fault.{Fault, Tells, IsEnd, End, InvalidInteger, Zero, UnexpectedVariant, Utf8, InvalidChar}
use Rattle.bincode_spec.specs.Fault.{InvalidBool, InvalidDuration, NulAt, Other, LengthMismatch, EmptyEnum, OutsideUsize}
use Rattle.bincode_spec.specs.Charge.{Step}
use Rattle.bincode_spec.specs.Format.{Format}
use Rattle.bincode_spec.specs.Layers.Laws.{IsLawful, IsBalanced}
use Rattle.bincode_spec.specs.Meaning.{Meaning}
use Rattle.bincode_spec.specs.Validated.{passed_of, with_test, TellsOwn}
use Rattle.bincode_spec.specs.Allowed.{AllowedWord, SomeWord, OneLength, IsShortest}
use Rattle.bincode_lemmas.specs.FormatLaws.{FailsBeforeEnd, test-lawful}
use Rattle.bincode_lemmas.specs.Balance.{test-balanced}
use Rattle.bincode_lemmas.specs.AllowedLaws.{from_result-written, written-from_result, same-one_length}
use Rattle.bincode_lemmas.specs.SpelledLaws.{word-from_result}

-- the error of a type's own fault is that for every reader
pub own-tells : (end_error : ℕ → DecodeError → Type 0) (why : Fault) (e : DecodeError) → TellsOwn why e → Tells end_error why e
own-tells end_error (End (Some missing)) e h = absurd h
own-tells end_error (End None) e h = absurd h.1
own-tells end_error (InvalidInteger _ _) e h = h
own-tells end_error (Zero _) e h = h
own-tells end_error (UnexpectedVariant _ _) e h = h
own-tells end_error Utf8 e h = h
own-tells end_error (InvalidChar _) e h = h
own-tells end_error (InvalidBool _) e h = h
own-tells end_error (InvalidDuration _ _) e h = h
own-tells end_error (NulAt _) e h = h
own-tells end_error (Other _) e h = h
own-tells end_error (LengthMismatch _ _) e h = h
own-tells end_error EmptyEnum e h = h
own-tells end_error (OutsideUsize _) e h = h

module _ (passes : Meaning → Bool) (why : Fault) where
  -- a meaning that passes stays
  pub with_test-is : (m : Meaning) → passes m ≡ true → passed_of passes why m ≡ Ok m
  with_test-is m h = rw h refl

  -- and another has the fault
  pub failed-is : (m : Meaning) → passes m ≡ false → passed_of passes why m ≡ Err why
  failed-is m h = rw h refl

  same_by : (picked : Bool) (m n : Meaning) → ◌≡◌ {A = Result Meaning Fault} (if picked then Ok m else Err why) (Ok n) → m ≡ n
  same_by true m n e = cc
  same_by false m n e = absurd (cc)

  passed_same : (m n : Meaning) → passed_of passes why m ≡ Ok n → m ≡ n
  passed_same m = same_by (passes m) m

  settles_by : ¬ (IsEnd why) → (picked : Bool) (m : Meaning) → FailsBeforeEnd {A = Meaning} (if picked then Ok m else Err why)
  settles_by other true m = tt
  settles_by other false m = other

  module _ (F : Format Meaning) where
    pub with_test-lawful : ¬ (IsEnd why) → IsLawful F → IsLawful (with_test passes why F)
    with_test-lawful other f = test-lawful F (passed_of passes why) f (λ m. settles_by other (passes m) m)

    pub with_test-balanced : IsBalanced F → IsBalanced (with_test passes why F)
    with_test-balanced = test-balanced F (passed_of passes why)

    -- a word that passes is one of the tested ones
    passed_word : (bytes : List ℕ) (m : Meaning) (s : List Step) → (with_test passes why F).Word bytes m s → (t : List Step) × F.Word bytes m t
    passed_word bytes m s u =
        let p = word-from_result (passed_of passes why) F bytes m s u in
        (p.1, subst (λ n. F.Word bytes n p.1) (passed_same p.0 m p.2) p.3)

    module _ (P : Meaning → Type 0) where
      -- what each meaning of a value passes allows what the value does
      pub with_test-allows : ((m : Meaning) → P m → passes m ≡ true) → (bytes : List ℕ) → AllowedWord P F bytes → AllowedWord P (with_test passes why F) bytes
      with_test-allows each bytes w = record {
        meaning = w.meaning;
        is_meant = w.is_meant;
        is_written = from_result-written (passed_of passes why) F bytes w.meaning w.meaning
            (with_test-is w.meaning (each w.meaning w.is_meant)) w.is_written;
      }

      pub allowed-passed : (bytes : List ℕ) → AllowedWord P (with_test passes why F) bytes → AllowedWord P F bytes
      allowed-passed bytes w =
          let p = written-from_result (passed_of passes why) F bytes w.meaning w.is_written in
          record { meaning = w.meaning; is_meant = w.is_meant; is_written = subst (λ n. F.Written bytes n) (passed_same p.0 w.meaning p.1) p.2 }

      pub with_test-has_word : ((m : Meaning) → P m → passes m ≡ true) → SomeWord (AllowedWord P F) → SomeWord (AllowedWord P (with_test passes why F))
      with_test-has_word each w = record { bytes = w.bytes; are_bytes = w.are_bytes; is_allowed = with_test-allows each w.bytes w.is_allowed }

      pub with_test-one_length : OneLength (AllowedWord P F) → OneLength (AllowedWord P (with_test passes why F))
      with_test-one_length = same-one_length (AllowedWord P F) (AllowedWord P (with_test passes why F)) allowed-passed

    -- none of the words that pass is shorter than the shortest
    pub with_test-shortest : (P Q : Meaning → Type 0) → IsShortest P Q F → IsShortest P (λ m. Q m × (passes m ≡ true)) (with_test passes why F)
    with_test-shortest P Q least written bytes m s w h u e =
        let t = passed_word bytes m s u in
        let a = allowed-passed (λ n. P n × Q n × (passes n ≡ true)) written
        (record { meaning = w.meaning; is_meant = (w.is_meant.0, w.is_meant.1.0, w.is_meant.1.1); is_written = w.is_written }) in
        least written bytes m t.0 (record { meaning = a.meaning; is_meant = (a.is_meant.0, a.is_meant.1); is_written = a.is_written }) h t.1 e.0
