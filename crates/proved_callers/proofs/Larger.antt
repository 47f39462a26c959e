-- What is decoded within a limit is decoded within a larger one.
use Rattle.std.specs.Prelude.{◌≡◌, ℕ, List, Option, Result, Ok, Err, IfOk, MatchResult}
use Rattle.std.proofs.Common.{sym, subst}
use Rattle.bincode_base.specs.Setting.{Setting}
use Rattle.bincode_base.specs.declared.error.DecodeError.{DecodeError}
use Rattle.bincode_spec.specs.Layers.Agree.{SameReading}
use Rattle.bincode_spec.specs.Decoding.{MayReportMemory}
use Rattle.bincode_spec.specs.Format.{Format}
use Rattle.bincode_spec.specs.Layers.Laws.{IsLawful}
use Rattle.bincode_spec.specs.Limits.{IsNoTighter}
use Rattle.bincode_spec.specs.Meaning.{Meaning}
use Rattle.bincode_spec.specs.Slice.{IsDecoded, FindsWords}
use Rattle.bincode_lemmas.specs.LimitLaws.{larger-decodes}

module _ {T : Type 0} (DecodesTo : Meaning → T → Type 0) (MayAllocate : Type 0) (input : List ℕ) where
  as_reading : (x : T × ℕ) (r : Result (T × ℕ) DecodeError) →
      MatchResult r (λ y. ((m : Meaning) × DecodesTo m x.0 × DecodesTo m y.0) × (y.1 ≡ x.1)) (MayReportMemory MayAllocate) → MatchResult r (SameReading DecodesTo x) (MayReportMemory MayAllocate)
  as_reading x (Ok y) h = record { same_length = sym h.1; meaning = h.0.0; first = h.0.1; second = h.0.2 }
  as_reading x (Err e) h = h

  reads_larger : (F : Format Meaning) → IsLawful F → (small large : Option ℕ) → IsNoTighter small large → (a b : Result (T × ℕ) DecodeError) →
      IfOk a (λ x. IsDecoded F small input (λ m. DecodesTo m x.0) x.1) → IfOk b (λ y. IsDecoded F large input (λ m. DecodesTo m y.0) y.1) →
      FindsWords F large MayAllocate input b → IfOk a (λ x. MatchResult b (SameReading DecodesTo x) (MayReportMemory MayAllocate))
  reads_larger F f small large h (Ok x) b d e found = as_reading x b (larger-decodes F f small large h input DecodesTo x.0 x.1 d MayAllocate b e found)
  reads_larger F f small large h (Err why) b d e found = tt

-- with one setting twice
pub larger-reads : {T : Type 0} (F : Setting → Format Meaning) → ((s : Setting) → IsLawful (F s)) → (s t : Setting) → t ≡ s → (small large : Option ℕ) → IsNoTighter small large →
    (input : List ℕ) (MayAllocate : Type 0) (DecodesTo : Meaning → T → Type 0) (a b : Result (T × ℕ) DecodeError) →
    IfOk a (λ x. IsDecoded (F s) small input (λ m. DecodesTo m x.0) x.1) → IfOk b (λ y. IsDecoded (F t) large input (λ m. DecodesTo m y.0) y.1) →
    FindsWords (F t) large MayAllocate input b → IfOk a (λ x. MatchResult b (SameReading DecodesTo x) (MayReportMemory MayAllocate))
larger-reads F f s t same small large h input MayAllocate DecodesTo a b d e found =
    reads_larger DecodesTo MayAllocate input (F s) (f s) small large h a b d
    (subst (λ u. IfOk b (λ y. IsDecoded (F u) large input (λ m. DecodesTo m y.0) y.1)) same e)
    (subst (λ u. FindsWords (F u) large MayAllocate input b) same found)
