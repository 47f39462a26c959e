-- `Memory` is never the error if decoding does not allocate.
use Rattle.std.specs.Prelude.{◌≡◌, ◌⊎◌, ℕ, List, refl, Option, Some, None, Result, Ok, Err, IfErr}
use Rattle.std.proofs.Common.{inl, inr}
use Rattle.bincode_base.specs.declared.error.DecodeError.{DecodeError}
use Rattle.bincode_base.specs.declared.error.DecodeError.TheVariants.{LimitExceeded, Memory}
use Rattle.bincode_spec.specs.Fault.{Fault, Tells, End, InvalidInteger, Zero, UnexpectedVariant, Utf8, InvalidChar, InvalidBool, InvalidDuration, NulAt}
use Rattle.bincode_spec.specs.Fault.{Other, LengthMismatch, EmptyEnum, OutsideUsize, short, long, Between, OneOf}
use Rattle.bincode_spec.specs.Format.{Format}
use Rattle.bincode_spec.specs.Layers.Laws.{IsLawful, IsBalanced}
use Rattle.bincode_spec.specs.Meaning.{Meaning}
use Rattle.bincode_spec.specs.Answer.{Answer, Gave, Refused, PassedLimit, answer}
use Rattle.bincode_lemmas.specs.AnswerLaws.{gave-word, refused-fault, passed-limit}
use Rattle.bincode_spec.specs.Decoding.{MayReportMemory}
use Rattle.bincode_spec.specs.Slice.{EndsSlice, FindsWords, TellsFaults, KeepsLimit}

-- it is no error of a fault
tells_none : (why : Fault) (e : DecodeError) → e ≡ Memory → Tells EndsSlice why e → ⊥
tells_none (End (Some missing)) e i h = cc
tells_none (End None) e i h = let k = h.1 in cc
tells_none (InvalidInteger expected found) e i h = cc
tells_none (Zero name) e i h = cc
tells_none (UnexpectedVariant (Between min max) found) e i h = let k = h.1 in cc
tells_none (UnexpectedVariant (OneOf tags) found) e i h = let k = h.1.1 in cc
tells_none Utf8 e i h = let k = h.1 in cc
tells_none (InvalidChar bytes) e i h = cc
tells_none (InvalidBool byte) e i h = cc
tells_none (InvalidDuration seconds nanos) e i h = cc
tells_none (NulAt place) e i h = cc
tells_none (Other text) e i (short t k l) = cc
tells_none (Other text) e i (long t k l) = cc
tells_none (LengthMismatch required found) e i h = cc
tells_none EmptyEnum e i h = let k = h.1 in cc
tells_none (OutsideUsize n) e i h = cc

module _ (F : Format Meaning) (f : IsLawful F) (b : IsBalanced F) (limit : Option ℕ) (input : List ℕ) (MayAllocate : Type 0) (none : MayAllocate → ⊥) where
  of_fault : (why : Fault) (e : DecodeError) → e ≡ Memory → Tells EndsSlice why e ⊎ MayReportMemory MayAllocate e → ⊥
  of_fault why e i (inl h) = tells_none why e i h
  of_fault why e i (inr h) = none h.0

  of_limit : (e : DecodeError) → e ≡ Memory → (e ≡ LimitExceeded) ⊎ MayReportMemory MayAllocate e → ⊥
  of_limit e i (inl h) = cc
  of_limit e i (inr h) = none h.0

  by_answer : (A : Type 0) (e : DecodeError) → FindsWords {A = A} F limit MayAllocate input (Err e) → TellsFaults {A = A} F limit MayAllocate input (Err e) →
      KeepsLimit {A = A} F limit MayAllocate input (Err e) → (a : Answer Meaning) → answer limit F input 0 ≡ a → e ≡ Memory → ⊥
  by_answer A e found fault passed (Gave m rest after) h i =
      let w = gave-word F f b limit input rest m after h in
      none (found w.word rest m w.steps w.input_is w.is_word w.within).0
  by_answer A e found fault passed (Refused why after) h i =
      let w = refused-fault F f b limit input why after h in
      of_fault why e i (fault why w.0 w.1 w.2)
  by_answer A e found fault passed PassedLimit h i =
      let w = passed-limit F f b limit input h in
      of_limit e i (passed w.0 w.1 w.2)

  -- the error is never `Memory`
  pub no-memory : {A : Type 0} (result : Result A DecodeError) → FindsWords F limit MayAllocate input result → TellsFaults F limit MayAllocate input result →
      KeepsLimit F limit MayAllocate input result → IfErr result (λ e. ¬ (e ≡ Memory))
  no-memory (Ok a) found fault passed = tt
  no-memory {A} (Err e) found fault passed = by_answer A e found fault passed (answer limit F input 0) refl
