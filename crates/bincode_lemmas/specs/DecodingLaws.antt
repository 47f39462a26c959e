-- Decoding a whole, from decoding its parts.
use Rattle.std.specs.Prelude.{◌≡◌, ◌⊎◌, ℕ, ◌<◌, ◌≤◌, Bool, Result, Ok, Err, List, [], ◌++◌, Option, Some, None, refl}
use Rattle.std.proofs.Common.{sym, ◌∙◌, ap, subst, inl, inr, arith, append_assoc}
use Rattle.bincode_base.specs.declared.error.DecodeError.{DecodeError}
use Rattle.bincode_base.specs.declared.error.DecodeError.TheVariants.{LimitExceeded}
use Rattle.bincode_spec.specs.Fault.{Fault, InvalidBool}
use Rattle.bincode_spec.specs.Charge.{Step, Charge}
use Rattle.bincode_spec.specs.Device.{DeviceErrors, CountRises, Takes}
use Rattle.bincode_spec.specs.Layers.Reads as reads
use Rattle.bincode_spec.specs.Layers.Reads.{ReadFailure}
use Rattle.bincode_spec.specs.Format.{Format, Reading, Took, Failed, pure, step, ◌>>=◌, from_result, map_format, charge_then}
use Rattle.bincode_spec.specs.Layers.Laws.{IsLawful}
use Rattle.bincode_spec.specs.Integers.{unsigned_byte}
use Rattle.bincode_spec.specs.Meaning.{Meaning, Truth, Nothing, Then, IsTruth, IsNothing, IsThen}
use Rattle.bincode_spec.specs.Words.{truth_of, truth_byte, truth, nothing, first_and}
use Rattle.bincode_lemmas.specs.WordsLaws.{truth_byte-passes, truth-fails}
use Rattle.bincode_spec.specs.Answer.{Answer, Gave, Refused, PassedLimit, answer, weigh_reading, gave_at, refused_at, charge_after_steps}
use Rattle.bincode_lemmas.specs.Sequences.{and_then}
use Rattle.bincode_spec.specs.Layers.Claims.{ClaimSucceeds, ClaimFails}
use Rattle.bincode_lemmas.specs.AnswerLaws.{answer-then, answer-took, answer-failed, answer-pure, answer-fail, step-answered}
use Rattle.bincode_spec.specs.Decoding.{Decodes, DecodeFailure, by_fault, by_limit, by_memory, by_failure, by_device}

-- a rise after what did not fall
pub rose-then : (a b c : ℕ) → a ≤ b → CountRises b c → CountRises a c
rose-then a b c h (inl r) = inl (omega arith)
rose-then a b c h (inr r) = inr r

-- what was taken before, then more
pub takes-then : (remaining middle remaining' : List ℕ) → Takes remaining middle → Takes middle remaining' → Takes remaining remaining'
takes-then remaining middle remaining' (a, e) (b, f) = (a ++ b, e ∙ ap (λ z. a ++ z) f ∙ sym (append_assoc a b remaining'))

-- `Memory` may come for more reasons
pub stops-besides : {A : Type 0} (end_error : ℕ → DecodeError → Type 0) (device : DeviceErrors) (H K : Type 0) → (H → K) →
    (a : Answer A) (before after : ℕ) (remaining remaining' : List ℕ) {now : ℕ} (e : DecodeError) → DecodeFailure end_error device H a before after remaining remaining' now e →
    DecodeFailure end_error device K a before after remaining remaining' now e
stops-besides end_error device H K f a before after remaining remaining' e (by_fault why h t k) = by_fault why h t k
stops-besides end_error device H K f a before after remaining remaining' e (by_limit h t k) = by_limit h t k
stops-besides end_error device H K f a before after remaining remaining' e (by_memory h t k) = by_memory (f h) t k
stops-besides end_error device H K f a before after remaining remaining' e (by_failure d h k) = by_failure d h k
stops-besides end_error device H K f a before after remaining remaining' e (by_device h) = by_device h

gave_at_parts : {A : Type 0} (a b : A) (r s : List ℕ) (x : Option ℕ) (d : ℕ) → gave_at a r x ≡ Gave b s d → (a ≡ b) × (r ≡ s)
gave_at_parts a b r s (Some c) d e = (cc, cc)
gave_at_parts a b r s None d e = absurd (cc)

refused_at_gave : {A : Type 0} (why : Fault) (b : A) (s : List ℕ) (x : Option ℕ) (d : ℕ) → refused_at why x ≡ Gave b s d → ⊥
refused_at_gave why b s (Some c) d e = cc
refused_at_gave why b s None d e = cc

weighed_took : {A : Type 0} (limit : Option ℕ) (c : ℕ) (r : Reading A) (a : A) (remaining : List ℕ) (d : ℕ) → weigh_reading limit c r ≡ Gave a remaining d → (s : List Step) × (r ≡ Took a remaining s)
weighed_took limit c (Took b r s) a remaining d e = let p = gave_at_parts b a r remaining (charge_after_steps limit c s) d e in (s, cc)
weighed_took limit c (Failed why s) a remaining d e = absurd (refused_at_gave why a remaining (charge_after_steps limit c s) d e)

-- an answer that gave a meaning took a prefix of the input
pub gave-takes : {A : Type 0} (limit : Option ℕ) (F : Format A) → IsLawful F → (input : List ℕ) (c : ℕ) (a : A) (remaining : List ℕ) (d : ℕ) → answer limit F input c ≡ Gave a remaining d → Takes input remaining
unfolding answer
gave-takes limit F f input c a remaining d e =
    let t = weighed_took limit c (F.read input) a remaining d e in
    let b = f.read_word input remaining a t.0 t.1 in
    (b.word, b.input_is)

-- one part, then what follows
pub answer-next : {A B : Type 0} (limit : Option ℕ) (F : Format A) (G : A → Format B) (input : List ℕ) (c : ℕ) (a : A) (remaining : List ℕ) (d : ℕ) →
    answer limit F input c ≡ Gave a remaining d → answer limit (F >>= G) input c ≡ answer limit (G a) remaining d
answer-next limit F G input c a remaining d e = answer-then limit F G input c ∙ ap (λ o. and_then o (λ b r after. answer limit (G b) r after)) e

module _ {A B : Type 0} (end_error : ℕ → DecodeError → Type 0) (device : DeviceErrors) (H K : Type 0) (grow : H → K) (limit : Option ℕ) (F : Format A) (G : A → Format B) where
  -- if decoding the first part fails, so does the whole
  pub stops-first : (input : List ℕ) (c before after : ℕ) (remaining' : List ℕ) {now : ℕ} (e : DecodeError) →
      DecodeFailure end_error device H (answer limit F input c) before after input remaining' now e →
      DecodeFailure end_error device K (answer limit (F >>= G) input c) before after input remaining' now e
  stops-first input c before after remaining' e (by_fault why h t k) = by_fault why (answer-then limit F G input c ∙ ap (λ o. and_then o (λ b r d. answer limit (G b) r d)) h) t k
  stops-first input c before after remaining' e (by_limit h t k) = by_limit (answer-then limit F G input c ∙ ap (λ o. and_then o (λ b r d. answer limit (G b) r d)) h) t k
  stops-first input c before after remaining' e (by_memory h t k) = by_memory (grow h) t k
  stops-first input c before after remaining' e (by_failure d h k) = by_failure d h k
  stops-first input c before after remaining' e (by_device h) = by_device h

  -- if decoding what follows fails, so does the whole
  pub stops-next : IsLawful F → (input : List ℕ) (c before between after : ℕ) (a : A) (remaining remaining' : List ℕ) (d : ℕ) {now : ℕ} (e : DecodeError) → answer limit F input c ≡ Gave a remaining d → before ≤ between →
      DecodeFailure end_error device H (answer limit (G a) remaining d) between after remaining remaining' now e → DecodeFailure end_error device K (answer limit (F >>= G) input c) before after input remaining' now e
  stops-next f input c before between after a remaining remaining' d e g le (by_fault why h t k) =
      by_fault why (answer-next limit F G input c a remaining d g ∙ h) t (takes-then input remaining remaining' (gave-takes limit F f input c a remaining d g) k)
  stops-next f input c before between after a remaining remaining' d e g le (by_limit h t k) =
      by_limit (answer-next limit F G input c a remaining d g ∙ h) t (takes-then input remaining remaining' (gave-takes limit F f input c a remaining d g) k)
  stops-next f input c before between after a remaining remaining' d e g le (by_memory h t k) = by_memory (grow h) t (takes-then input remaining remaining' (gave-takes limit F f input c a remaining d g) k)
  stops-next f input c before between after a remaining remaining' d e g le (by_failure x h k) =
      by_failure x (rose-then before between after le h) (takes-then input remaining remaining' (gave-takes limit F f input c a remaining d g) k)
  stops-next f input c before between after a remaining remaining' d e g le (by_device h) = by_device h

-- a claim that succeeds, and one that passes the limit
pub claimed-answer : (limit : Option ℕ) (c n d : ℕ) (input : List ℕ) → ClaimSucceeds limit c n d → answer limit (step (Charge n)) input c ≡ Gave tt input d
claimed-answer limit c n d input h = step-answered limit (Charge n) input c (Some d) h

pub over_claimed-answer : (limit : Option ℕ) (c n d : ℕ) (input : List ℕ) → ClaimFails limit c n d → answer limit (step (Charge n)) input c ≡ PassedLimit
over_claimed-answer limit c n d input h = step-answered limit (Charge n) input c None h.0

module _ {A : Type 0} (limit : Option ℕ) (n : ℕ) (F : Format A) (input : List ℕ) (c : ℕ) where
  -- a charge, then a word
  pub charge_then-gave : (d : ℕ) (middle remaining : List ℕ) (a : A) → ClaimSucceeds limit c n d → middle ≡ input → F.read middle ≡ Took a remaining [] → answer limit (charge_then n F) input c ≡ Gave a remaining d
  charge_then-gave d middle remaining a h same r =
      answer-next limit (step (Charge n)) (λ _. F) input c tt input d (claimed-answer limit c n d input h) ∙ answer-took limit F input remaining a d (ap F.read (sym same) ∙ r)

  module _ (end_error : ℕ → DecodeError → Type 0) (device : DeviceErrors) (H : Type 0) where
    -- a charge that passes the limit
    pub charge_then-passed : (d before after : ℕ) (remaining : List ℕ) {now : ℕ} (e : DecodeError) → ClaimFails limit c n d → e ≡ LimitExceeded → remaining ≡ input →
        DecodeFailure end_error device H (answer limit (charge_then n F) input c) before after input remaining now e
    charge_then-passed d before after remaining e h k same =
        by_limit (answer-then limit (step (Charge n)) (λ _. F) input c ∙ ap (λ o. and_then o (λ _ r after. answer limit F r after)) (over_claimed-answer limit c n d input h)) k ([], sym same)

    -- a charge, then a fault
    pub charge_then-misread : (d before between after : ℕ) (middle remaining : List ℕ) {now : ℕ} (e : DecodeError) → now ≡ d → ClaimSucceeds limit c n d → middle ≡ input →
        between ≡ before → ReadFailure end_error device (F.read middle) between after middle remaining e →
        DecodeFailure end_error device H (answer limit (charge_then n F) input c) before after input remaining now e
    charge_then-misread d before between after middle remaining e still h same count (reads.by_fault why r t k) =
        by_fault why
        (answer-next limit (step (Charge n)) (λ _. F) input c tt input d (claimed-answer limit c n d input h) ∙ answer-failed limit F input why d (ap F.read (sym same) ∙ r)
        ∙ ap (Refused why) (sym still)) t
        (subst (λ z. Takes z remaining) same k)
    charge_then-misread d before between after middle remaining e still h same count (reads.by_failure x r k) = by_failure x (subst (λ z. CountRises z after) count r) (subst (λ z. Takes z remaining) same k)
    charge_then-misread d before between after middle remaining e still h same count (reads.by_device k) = by_device k

-- a mapped format
pub map-gave : {A B : Type 0} (f : A → B) (limit : Option ℕ) (F : Format A) (input : List ℕ) (c : ℕ) (a : A) (remaining : List ℕ) (d : ℕ) →
    answer limit F input c ≡ Gave a remaining d → answer limit (map_format f F) input c ≡ Gave (f a) remaining d
map-gave f limit F input c a remaining d e = answer-next limit F (λ z. pure (f z)) input c a remaining d e ∙ answer-pure limit (f a) remaining d

pub map-stops :
    {A B : Type 0} (f : A → B) (end_error : ℕ → DecodeError → Type 0) (device : DeviceErrors) (H : Type 0) (limit : Option ℕ) (F : Format A)
    (input : List ℕ) (c before after : ℕ) (remaining : List ℕ) {now : ℕ} (e : DecodeError) →
    DecodeFailure end_error device H (answer limit F input c) before after input remaining now e →
    DecodeFailure end_error device H (answer limit (map_format f F) input c) before after input remaining now e
map-stops f end_error device H limit F input c before after remaining e = stops-first end_error device H H (λ h. h) limit F (λ z. pure (f z)) input c before after remaining e

module _ {A B : Type 0} (test : A → Result B Fault) (limit : Option ℕ) (F : Format A) (input : List ℕ) (c : ℕ) (a : A) (remaining : List ℕ) (d : ℕ) where
  -- a meaning that passes a test
  pub from_result-gave : (b : B) → answer limit F input c ≡ Gave a remaining d → test a ≡ Ok b → answer limit (F >>= λ x. from_result (test x)) input c ≡ Gave b remaining d
  from_result-gave b e h = answer-next limit F (λ x. from_result (test x)) input c a remaining d e ∙ rw h (answer-pure limit b remaining d)

  -- one that fails it
  pub from_result-refused : (why : Fault) → answer limit F input c ≡ Gave a remaining d → test a ≡ Err why → answer limit (F >>= λ x. from_result (test x)) input c ≡ Refused why d
  from_result-refused why e h = answer-next limit F (λ x. from_result (test x)) input c a remaining d e ∙ rw h (answer-fail {A = B} limit why remaining d)

module _ (limit : Option ℕ) (input : List ℕ) (c b : ℕ) (remaining : List ℕ) (d : ℕ) where
  -- a truth value is given for its byte
  pub truth-decodes : (v : Bool) → answer limit unsigned_byte input c ≡ Gave b remaining d → b ≡ truth_byte v → Decodes (IsTruth v) (answer limit truth input c) remaining d
  truth-decodes v e same = record { meaning = Truth v; answer_is = from_result-gave truth_of limit unsigned_byte input c b remaining d (Truth v) e (ap truth_of same ∙ truth_byte-passes v); is_decoded = refl }

  -- a byte above 1 is refused
  pub truth-refuses : answer limit unsigned_byte input c ≡ Gave b remaining d → 1 < b → answer limit truth input c ≡ Refused (InvalidBool b) d
  truth-refuses e h = from_result-refused truth_of limit unsigned_byte input c b remaining d (InvalidBool b) e (truth-fails b h)

module _ (limit : Option ℕ) (F : Format Meaning) (others : Format Meaning) (input : List ℕ) (c : ℕ) where
  -- the first part of a tuple, then the others
  pub tuple-gave : (a b : Meaning) (middle remaining : List ℕ) (d after : ℕ) → answer limit F input c ≡ Gave a middle d →
      answer limit others middle d ≡ Gave b remaining after → answer limit (first_and F others) input c ≡ Gave (Then a b) remaining after
  unfolding first_and
  tuple-gave a b middle remaining d after e k = answer-next limit F (λ m. map_format (Then m) others) input c a middle d e ∙ map-gave (Then a) limit others middle d b remaining after k

  pub tuple-decodes : (P Q : Meaning → Type 0) (middle remaining : List ℕ) (d after : ℕ) → Decodes P (answer limit F input c) middle d →
      Decodes Q (answer limit others middle d) remaining after → Decodes (IsThen P Q) (answer limit (first_and F others) input c) remaining after
  tuple-decodes P Q middle remaining d after p q = record {
    meaning = Then p.meaning q.meaning;
    answer_is = tuple-gave p.meaning q.meaning middle remaining d after p.answer_is q.answer_is;
    is_decoded = record { first = p.meaning; others = q.meaning; meaning_is = refl; is_first = p.is_decoded; are_others = q.is_decoded };
  }

  module _ (end_error : ℕ → DecodeError → Type 0) (device : DeviceErrors) (H K : Type 0) where
    pub tuple-stops_first : (before after : ℕ) (remaining : List ℕ) {now : ℕ} (e : DecodeError) →
        DecodeFailure end_error device H (answer limit F input c) before after input remaining now e →
        DecodeFailure end_error device (H ⊎ K) (answer limit (first_and F others) input c) before after input remaining now e
    unfolding first_and
    tuple-stops_first before after remaining e = stops-first end_error device H (H ⊎ K) inl limit F (λ m. map_format (Then m) others) input c before after remaining e

    pub tuple-stops_next : IsLawful F → (P : Meaning → Type 0) (middle remaining : List ℕ) (d before between after : ℕ) {now : ℕ} (e : DecodeError) →
        Decodes P (answer limit F input c) middle d → before ≤ between →
        DecodeFailure end_error device K (answer limit others middle d) between after middle remaining now e →
        DecodeFailure end_error device (H ⊎ K) (answer limit (first_and F others) input c) before after input remaining now e
    unfolding first_and
    tuple-stops_next f P middle remaining d before between after e p le s =
        stops-next end_error device K (H ⊎ K) inr limit F (λ m. map_format (Then m) others) f input c before between after p.meaning middle remaining d e p.answer_is le
        (map-stops (Then p.meaning) end_error device K limit others middle d between after remaining e s)

-- the empty tuple
pub nothing-decodes : (limit : Option ℕ) (input : List ℕ) (c : ℕ) → Decodes IsNothing (answer limit nothing input c) input c
unfolding nothing
nothing-decodes limit input c = record { meaning = Nothing; answer_is = answer-pure limit Nothing input c; is_decoded = refl }
