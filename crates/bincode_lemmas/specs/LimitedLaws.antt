-- What the decoding calls return under a limit, for types whose need is known and for types that charge enough.
use Rattle.std.specs.Prelude.{◌≡◌, ◌⊎◌, ◌≤◌, ◌++◌, ◌-◌, length, ℕ, List, refl, Option, Some, None, Result, Ok, Err, IfOk, IfErr}
use Rattle.std.proofs.Common.{◌∙◌, ap, subst, arith, inl, inr, length-append}
use Rattle.bincode_base.specs.declared.error.DecodeError.{DecodeError}
use Rattle.bincode_base.specs.declared.error.DecodeError.TheVariants.{LimitExceeded}
use Rattle.bincode_spec.specs.Answer.{StepsOf, of_word, of_fault}
use Rattle.bincode_spec.specs.Charge.{Step, StaysWithin}
use Rattle.bincode_spec.specs.Decoding.{MayReportMemory, AcceptsAll, ReportsFault, EnforcesLimit, WordRead}
use Rattle.bincode_spec.specs.Fault.{Fault, Tells, End, InvalidInteger, Zero, UnexpectedVariant, Utf8, InvalidChar, InvalidBool, InvalidDuration, NulAt}
use Rattle.bincode_spec.specs.Fault.{Other, LengthMismatch, EmptyEnum, OutsideUsize, short, long, Between, OneOf}
use Rattle.bincode_spec.specs.Format.{Format, Reading, Took, Failed}
use Rattle.bincode_spec.specs.Layers.Laws.{IsLawful, IsBalanced, steps_of}
use Rattle.bincode_spec.specs.Meaning.{Meaning}
use Rattle.bincode_spec.specs.Slice.{IsDecoded, EndsSlice, IsAnswer}
use Rattle.bincode_lemmas.specs.NeedLaws.{Needs, peak-passes, peak-stays}
use Rattle.bincode_lemmas.specs.ChargedLaws.{ChargesEnough, within-bounded}
use Rattle.bincode_spec.specs.Limited.{LimitedBy, WordBounded}

-- no fault gives `LimitExceeded`, unless the end of the input does
module _ (end_error : ℕ → DecodeError → Type 0) (never : (missing : ℕ) (e : DecodeError) → end_error missing e → e ≡ LimitExceeded → ⊥) where
  tells_limit : (why : Fault) (e : DecodeError) → e ≡ LimitExceeded → Tells end_error why e → ⊥
  tells_limit (End (Some missing)) e i h = never missing e h i
  tells_limit (End None) e i h = never h.0 e h.1 i
  tells_limit (InvalidInteger expected found) e i h = cc
  tells_limit (Zero name) e i h = cc
  tells_limit (UnexpectedVariant (Between min max) found) e i h = let k = h.1 in cc
  tells_limit (UnexpectedVariant (OneOf tags) found) e i h = let k = h.1.1 in cc
  tells_limit Utf8 e i h = let k = h.1 in cc
  tells_limit (InvalidChar bytes) e i h = cc
  tells_limit (InvalidBool byte) e i h = cc
  tells_limit (InvalidDuration seconds nanos) e i h = cc
  tells_limit (NulAt place) e i h = cc
  tells_limit (Other text) e i (short t k l) = cc
  tells_limit (Other text) e i (long t k l) = cc
  tells_limit (LengthMismatch required found) e i h = cc
  tells_limit EmptyEnum e i h = let k = h.1 in cc
  tells_limit (OutsideUsize n) e i h = cc

module _ (F : Format Meaning) (f : IsLawful F) (input : List ℕ) where
  steps_by : (r : Reading Meaning) → F.read input ≡ r → StepsOf F input (steps_of r)
  steps_by (Took m remaining steps) e = let q = f.read_word input remaining m steps e in of_word q.word remaining m q.is_word q.input_is
  steps_by (Failed why steps) e = of_fault why (f.read_fault input why steps e)

  -- the steps of a word that the input begins with, and those before its fault, are those that the program finds
  word_steps : (word remaining : List ℕ) (m : Meaning) (s : List Step) → input ≡ word ++ remaining → F.Word word m s → steps_of (F.read input) ≡ s
  word_steps word remaining m s e w = ap (λ z. steps_of (F.read z)) e ∙ ap (λ r. steps_of r) (f.word_read word remaining m s w)

  fault_steps : (why : Fault) (s : List Step) → F.Faults input why s → steps_of (F.read input) ≡ s
  fault_steps why s h = ap (λ r. steps_of r) (f.fault_read input why s h)

  module _ (need : List ℕ → ℕ) (n : Needs need F) (limit : ℕ) where
    stays_by : (s : List Step) → steps_of (F.read input) ≡ s → need input ≤ limit → StaysWithin (Some limit) 0 s
    stays_by s e h = subst (StaysWithin (Some limit) 0) e (peak-stays limit (need input) (steps_of (F.read input)) (n.peaks input) h)

    module _ (end_error : ℕ → DecodeError → Type 0) (never : (missing : ℕ) (e : DecodeError) → end_error missing e → e ≡ LimitExceeded → ⊥) (Excused : DecodeError → Type 0) where
      told_not : (why : Fault) (e : DecodeError) → e ≡ LimitExceeded → Tells end_error why e ⊎ Excused e → Excused e
      told_not why e l (inl t) = absurd (tells_limit end_error never why e l t)
      told_not why e l (inr t) = t

      kept_by : {A : Type 0} (r : Reading Meaning) → F.read input ≡ r → (result : Result A DecodeError) → AcceptsAll F (Some limit) Excused input result → ReportsFault end_error F (Some limit) Excused input result →
          need input ≤ limit → IfErr result (λ e. e ≡ LimitExceeded → Excused e)
      kept_by r i (Ok a) found told h = tt
      kept_by (Took m remaining s) i (Err e) found told h = λ l.
          let q = f.read_word input remaining m s i in
          found q.word remaining m s q.input_is q.is_word (stays_by s (ap (λ r. steps_of r) i) h)
      kept_by (Failed why s) i (Err e) found told h = λ l.
          let q = f.read_fault input why s i in
          told_not why e l (told why s q (stays_by s (ap (λ r. steps_of r) i) h))

      pub limited : {A : Type 0} (result : Result A DecodeError) → AcceptsAll F (Some limit) Excused input result → ReportsFault end_error F (Some limit) Excused input result → EnforcesLimit F (Some limit) Excused input result →
          LimitedBy end_error F need limit Excused input result
      limited result found told over = record {
        passed = λ h. over (steps_of (F.read input)) (steps_by (F.read input) refl) (peak-passes limit (need input) (steps_of (F.read input)) (n.peaks input) h);
        kept = kept_by (F.read input) refl result found told;
        words = λ h word remaining m s e w u. found word remaining m s e w (stays_by s (word_steps word remaining m s e w) h);
        faults = λ h why s w u. told why s w (stays_by s (fault_steps why s w) h);
      }

-- `LimitedBy` from what a call that reads promises under this limit
pub read-limited : {A : Type 0} (F : Format Meaning) → IsLawful F → (need : List ℕ → ℕ) → Needs need F → (end_error : ℕ → DecodeError → Type 0) → ((missing : ℕ) (e : DecodeError) → end_error missing e → e ≡ LimitExceeded → ⊥) →
    (Excused : DecodeError → Type 0) (input : List ℕ) (bound : Option ℕ) (result : Result A DecodeError) → AcceptsAll F bound Excused input result → ReportsFault end_error F bound Excused input result → EnforcesLimit F bound Excused input result →
    (limit : ℕ) → bound ≡ Some limit → LimitedBy end_error F need limit Excused input result
read-limited F f need n end_error never Excused input bound result found told over limit e =
    limited F f input need n limit end_error never Excused result (subst (λ b. AcceptsAll F b Excused input result) e found) (subst (λ b. ReportsFault end_error F b Excused input result) e told) (subst (λ b. EnforcesLimit F b Excused input result) e over)

-- and from an answer to a slice
pub answer-limited : {A : Type 0} (F : Format Meaning) → IsLawful F → (need : List ℕ → ℕ) → Needs need F → (MayAllocate : Type 0) (DecodesTo : Meaning → A → Type 0) (input : List ℕ) (bound : Option ℕ) (result : Result (A × ℕ) DecodeError) →
    IsAnswer F bound MayAllocate DecodesTo input result → (limit : ℕ) → bound ≡ Some limit → LimitedBy EndsSlice F need limit (MayReportMemory MayAllocate) input result
answer-limited F f need n MayAllocate DecodesTo input bound result a =
    read-limited F f need n EndsSlice (λ missing e h l. cc) (MayReportMemory MayAllocate) input bound result a.found a.fault a.limit

-- what was decoded under a limit is bounded by it
module _ (F : Format Meaning) (f : IsLawful F) (b : IsBalanced F) (h : ChargesEnough F) where
  decoded_bounded : (limit : ℕ) (input : List ℕ) (DecodesTo : Meaning → Type 0) (n : ℕ) → IsDecoded F (Some limit) input DecodesTo n → WordBounded F limit input n
  decoded_bounded limit input DecodesTo n d = record {
    word = d.word;
    remaining = d.remaining;
    meaning = d.meaning;
    steps = d.steps;
    input_is = d.input_is;
    is_word = d.is_word;
    count = d.count;
    bounded = within-bounded F f b h limit d.word d.meaning d.steps d.is_word d.within;
  }

  pub decoded-bounded : (input : List ℕ) (DecodesTo : Meaning → Type 0) (n : ℕ) (bound : Option ℕ) → IsDecoded F bound input DecodesTo n → (limit : ℕ) → bound ≡ Some limit → WordBounded F limit input n
  decoded-bounded input DecodesTo n bound d limit e = decoded_bounded limit input DecodesTo n (subst (λ o. IsDecoded F o input DecodesTo n) e d)

  pub answer-bounded : {A : Type 0} (MayAllocate : Type 0) (DecodesTo : Meaning → A → Type 0) (input : List ℕ) (bound : Option ℕ) (result : Result (A × ℕ) DecodeError) → IsAnswer F bound MayAllocate DecodesTo input result →
      (limit : ℕ) → bound ≡ Some limit → IfOk result (λ x. WordBounded F limit input x.1)
  answer-bounded MayAllocate DecodesTo input bound (Ok x) a limit e = decoded-bounded input (λ m. DecodesTo m x.0) x.1 bound a.word limit e
  answer-bounded MayAllocate DecodesTo input bound (Err why) a limit e = tt

  -- and what was read from a reader
  read_bounded : (limit : ℕ) (input remaining : List ℕ) (DecodesTo : Meaning → Type 0) → WordRead F (Some limit) input remaining DecodesTo → WordBounded F limit input (length input - length remaining)
  read_bounded limit input remaining DecodesTo d = record {
    word = d.word;
    remaining = remaining;
    meaning = d.meaning;
    steps = d.steps;
    input_is = d.input_is;
    is_word = d.is_word;
    count = let l = ap length d.input_is in let k = length-append d.word remaining in omega (arith, l, k);
    bounded = within-bounded F f b h limit d.word d.meaning d.steps d.is_word d.within;
  }

  pub read-bounded : {A : Type 0} (DecodesTo : Meaning → A → Type 0) (input remaining : List ℕ) (bound : Option ℕ) (result : Result A DecodeError) → IfOk result (λ v. WordRead F bound input remaining (λ m. DecodesTo m v)) →
      (limit : ℕ) → bound ≡ Some limit → IfOk result (λ _. WordBounded F limit input (length input - length remaining))
  read-bounded DecodesTo input remaining bound (Ok v) d limit e = read_bounded limit input remaining (λ m. DecodesTo m v) (subst (λ o. WordRead F o input remaining (λ m. DecodesTo m v)) e d)
  read-bounded DecodesTo input remaining bound (Err why) d limit e = tt
