-- The answer of decoding a run, element by element.
use Rattle.std.specs.Prelude.{◌≡◌, ℕ, suc, ◌+◌, ◌-◌, ◌*◌, ◌≤◌, List, [], ◌∷◌, ◌++◌, Option, Some, None, refl}
use Rattle.std.proofs.Common.{sym, ◌∙◌, ap, subst, arith, append_assoc, append-nil}
use Rattle.bincode_base.specs.declared.error.DecodeError.{DecodeError}
use Rattle.bincode_base.specs.declared.error.DecodeError.TheVariants.{LimitExceeded}
use Rattle.bincode_spec.specs.Fault.{Fault, End, InvalidInteger, Zero, UnexpectedVariant, Utf8, InvalidChar}
use Rattle.bincode_spec.specs.Fault.{InvalidBool, InvalidDuration, NulAt, Other, LengthMismatch, EmptyEnum, OutsideUsize, Tells}
use Rattle.bincode_spec.specs.Charge.{Reserve, Release}
use Rattle.bincode_spec.specs.Device.{DeviceErrors, Takes}
use Rattle.bincode_spec.specs.Format.{Format, Reading, Took, Failed, pure, step, ◌>>=◌, fault_without_count, reading_without_count, without_count, map_format, elements, sequence}
use Rattle.bincode_spec.specs.Layers.Laws.{IsLawful, IsBalanced}
use Rattle.bincode_lemmas.specs.FormatLaws.{elements-lawful}
use Rattle.bincode_lemmas.specs.Balance.{elements-holds}
use Rattle.bincode_spec.specs.Meaning.{Meaning, Nothing, list_meaning}
use Rattle.bincode_spec.specs.Words.{array}
use Rattle.bincode_spec.specs.Answer.{Answer, Gave, Refused, PassedLimit, answer, weigh_reading, gave_at, refused_at, charge_after_steps, after_release}
use Rattle.bincode_lemmas.specs.Sequences.{and_then}
use Rattle.bincode_spec.specs.Layers.Claims.{ClaimSucceeds, ClaimFails}
use Rattle.bincode_lemmas.specs.AnswerLaws.{answer-then, answer-pure, answer-release, step-answered, gave-grows, gave-recharged, gave-is_uncounted}
use Rattle.bincode_spec.specs.Decoding.{Decodes, DecodeFailure, by_fault, by_limit, by_memory, by_failure, by_device}
use Rattle.bincode_lemmas.specs.DecodingLaws.{rose-then, takes-then, gave-takes, answer-next, map-gave, map-stops}
use Rattle.bincode_spec.specs.Run.{IsListOf}
use Rattle.bincode_spec.specs.Layers.Releases.{CanRelease, ReleasesAtMost, RoomReturned}

-- how far a run is read

-- these meanings, then those of the answer
abbrev pub behind : List Meaning → Answer (List Meaning) → Answer (List Meaning)
behind ms a = and_then a (λ others remaining charge. Gave (ms ++ others) remaining charge)

-- With these meanings read and n elements left, the answer to all is that to the rest of the input after them; and the
-- room of those that are left is still reserved.
pub record ReadSoFar (limit : Option ℕ) (share : ℕ) (F : Format Meaning) (all : Answer (List Meaning)) (input : List ℕ) (ms : List Meaning) (left : ℕ) (remaining : List ℕ) (charge : ℕ) : Type 0 where
  pub is_rest : behind ms (answer limit (elements left share F) remaining charge) ≡ all
  pub is_reserved : CanRelease limit charge (left * share)
  pub is_after : Takes input remaining

-- an answer whose fault leaves open how many bytes the input lacks

abbrev vague_answer : Answer Meaning → Answer Meaning
vague_answer (Gave m remaining charge) = Gave m remaining charge
vague_answer (Refused why c) = Refused (fault_without_count why) c
vague_answer PassedLimit = PassedLimit

took_vaguely : (m : Meaning) (remaining : List ℕ) (x : Option ℕ) → gave_at m remaining x ≡ vague_answer (gave_at m remaining x)
took_vaguely m remaining (Some c) = refl
took_vaguely m remaining None = refl

failed_vaguely : (why : Fault) (x : Option ℕ) → refused_at (fault_without_count why) x ≡ vague_answer (refused_at why x)
failed_vaguely why (Some c) = refl
failed_vaguely why None = refl

weighed_vaguely : (limit : Option ℕ) (c : ℕ) (r : Reading Meaning) → weigh_reading limit c (reading_without_count r) ≡ vague_answer (weigh_reading limit c r)
weighed_vaguely limit c (Took m remaining s) = took_vaguely m remaining (charge_after_steps limit c s)
weighed_vaguely limit c (Failed why s) = failed_vaguely why (charge_after_steps limit c s)

answer_unsure : (limit : Option ℕ) (F : Format Meaning) (input : List ℕ) (c : ℕ) → answer limit (without_count F) input c ≡ vague_answer (answer limit F input c)
unfolding answer without_count
answer_unsure limit F input c = weighed_vaguely limit c (F.read input)

-- the error of a fault is one of the fault without a count
tells_vague : (end_error : ℕ → DecodeError → Type 0) (why : Fault) (e : DecodeError) → Tells end_error why e → Tells end_error (fault_without_count why) e
tells_vague end_error (End (Some missing)) e h = (missing, h)
tells_vague end_error (End None) e h = h
tells_vague end_error (InvalidInteger _ _) e h = h
tells_vague end_error (Zero _) e h = h
tells_vague end_error (UnexpectedVariant _ _) e h = h
tells_vague end_error Utf8 e h = h
tells_vague end_error (InvalidChar _) e h = h
tells_vague end_error (InvalidBool _) e h = h
tells_vague end_error (InvalidDuration _ _) e h = h
tells_vague end_error (NulAt _) e h = h
tells_vague end_error (Other _) e h = h
tells_vague end_error (LengthMismatch _ _) e h = h
tells_vague end_error EmptyEnum e h = h
tells_vague end_error (OutsideUsize _) e h = h

-- a claim of elements that succeeds, and one that passes the limit
reserved_answer : (limit : Option ℕ) (c n share d : ℕ) (input : List ℕ) → ClaimSucceeds limit c (n * share) d → answer limit (step (Reserve n share)) input c ≡ Gave tt input d
reserved_answer limit c n share d input h = step-answered limit (Reserve n share) input c (Some d) h

over_reserved_answer : (limit : Option ℕ) (c n share d : ℕ) (input : List ℕ) → ClaimFails limit c (n * share) d → answer limit (step (Reserve n share)) input c ≡ PassedLimit
over_reserved_answer limit c n share d input h = step-answered limit (Reserve n share) input c None h.0

still_reserved : (limit : Option ℕ) (share : ℕ) (F : Format Meaning) → IsLawful F → IsBalanced F →
    (n : ℕ) (remaining : List ℕ) (c : ℕ) (m : Meaning) (remaining' : List ℕ) (d : ℕ) → CanRelease limit c (suc n * share) →
    answer limit F remaining (after_release limit c share) ≡ Gave m remaining' d → CanRelease limit d (n * share)
still_reserved None share F f b n remaining c m remaining' d h e = tt
still_reserved (Some limit) share F f b n remaining c m remaining' d h e =
    let g : c - share ≤ d = gave-grows F f b limit remaining remaining' m (c - share) d e in
    let k : suc n * share ≡ n * share + share = omega arith in
    omega arith

-- what follows an element: the others
abbrev others_after : Option ℕ → ℕ → Format Meaning → ℕ → Answer Meaning → Answer (List Meaning)
others_after limit share F n a = and_then a (λ m remaining c. behind (m ∷ []) (answer limit (elements n share F) remaining c))

module _ (limit : Option ℕ) (share : ℕ) (F : Format Meaning) where
  last_after : (m : Meaning) (a : Answer (List Meaning)) → and_then a (λ others remaining c. answer limit (pure (m ∷ others)) remaining c) ≡ behind (m ∷ []) a
  last_after m (Gave others remaining c) = answer-pure limit (m ∷ others) remaining c
  last_after m (Refused why c) = refl
  last_after m PassedLimit = refl

  next_after : (n : ℕ) (a : Answer Meaning) → and_then a (λ m remaining c. answer limit (map_format (λ others. m ∷ others) (elements n share F)) remaining c) ≡ others_after limit share F n a
  next_after n (Gave m remaining c) = answer-then limit (elements n share F) (λ others. pure (m ∷ others)) remaining c ∙ last_after m (answer limit (elements n share F) remaining c)
  next_after n (Refused why c) = refl
  next_after n PassedLimit = refl

  -- one element, whose claim is released, then the others
  element_then : (n : ℕ) (input : List ℕ) (c : ℕ) → answer limit (elements (suc n) share F) input c ≡ others_after limit share F n (vague_answer (answer limit F input (after_release limit c share)))
  element_then n input c =
      answer-next limit (step (Release share)) (λ _. without_count F >>= λ m. map_format (λ others. m ∷ others) (elements n share F)) input c tt input (after_release limit c share)
      (answer-release limit share input c)
      ∙ answer-then limit (without_count F) (λ m. map_format (λ others. m ∷ others) (elements n share F)) input (after_release limit c share)
      ∙ next_after n (answer limit (without_count F) input (after_release limit c share))
      ∙ ap (others_after limit share F n) (answer_unsure limit F input (after_release limit c share))

  after_push : (ms : List Meaning) (m : Meaning) (a : Answer (List Meaning)) → behind ms (behind (m ∷ []) a) ≡ behind (ms ++ m ∷ []) a
  after_push ms m (Gave others remaining c) = ap (λ z. Gave z remaining c) (sym (append_assoc ms (m ∷ []) others))
  after_push ms m (Refused why c) = refl
  after_push ms m PassedLimit = refl

  module _ (all : Answer (List Meaning)) (input : List ℕ) (ms : List Meaning) where
    -- the answer to all, from that to the next element
    so_far : (n : ℕ) (remaining : List ℕ) (c : ℕ) (a : Answer Meaning) → ReadSoFar limit share F all input ms (suc n) remaining c →
        answer limit F remaining (after_release limit c share) ≡ a → all ≡ behind ms (others_after limit share F n (vague_answer a))
    so_far n remaining c a h e = sym h.is_rest ∙ ap (behind ms) (element_then n remaining c ∙ ap (λ z. others_after limit share F n (vague_answer z)) e)

    -- one element more is read
    pub one-more : IsLawful F → IsBalanced F → (n : ℕ) (remaining : List ℕ) (c : ℕ) (m : Meaning) (remaining' : List ℕ) (d : ℕ) →
        ReadSoFar limit share F all input ms (suc n) remaining c → answer limit F remaining (after_release limit c share) ≡ Gave m remaining' d →
        ReadSoFar limit share F all input (ms ++ m ∷ []) n remaining' d
    one-more f b n remaining c m remaining' d h e = record {
      is_rest = sym (so_far n remaining c (Gave m remaining' d) h e ∙ after_push ms m (answer limit (elements n share F) remaining' d));
      is_reserved = still_reserved limit share F f b n remaining c m remaining' d h.is_reserved e;
      is_after = takes-then input remaining remaining' h.is_after (gave-takes limit F f remaining (after_release limit c share) m remaining' d e);
    }

    -- if decoding an element fails, so does the run
    pub one_stops :
        (end_error : ℕ → DecodeError → Type 0) (device : DeviceErrors) (H : Type 0) (n : ℕ) (remaining : List ℕ) (c before between after : ℕ) (remaining' : List ℕ) {now : ℕ} (e : DecodeError) →
        before ≤ between → ReadSoFar limit share F all input ms (suc n) remaining c →
        DecodeFailure end_error device H (answer limit F remaining (after_release limit c share)) between after remaining remaining' now e → DecodeFailure end_error device H all before after input remaining' now e
    one_stops end_error device H n remaining c before between after remaining' {now} e le h (by_fault why a t k) =
        by_fault (fault_without_count why) (so_far n remaining c (Refused why now) h a) (tells_vague end_error why e t) (takes-then input remaining remaining' h.is_after k)
    one_stops end_error device H n remaining c before between after remaining' e le h (by_limit a t k) = by_limit (so_far n remaining c PassedLimit h a) t (takes-then input remaining remaining' h.is_after k)
    one_stops end_error device H n remaining c before between after remaining' e le h (by_memory g t k) = by_memory g t (takes-then input remaining remaining' h.is_after k)
    one_stops end_error device H n remaining c before between after remaining' e le h (by_failure d r k) = by_failure d (rose-then before between after le r) (takes-then input remaining remaining' h.is_after k)
    one_stops end_error device H n remaining c before between after remaining' e le h (by_device g) = by_device g

    -- all is read
    pub all-read : (remaining : List ℕ) (c : ℕ) → ReadSoFar limit share F all input ms 0 remaining c → all ≡ Gave ms remaining c
    all-read remaining c h = sym h.is_rest ∙ ap (behind ms) (answer-pure limit [] remaining c) ∙ ap (λ z. Gave z remaining c) (append-nil ms)

  after_none : (a : Answer (List Meaning)) → behind [] a ≡ a
  after_none (Gave others remaining c) = refl
  after_none (Refused why c) = refl
  after_none PassedLimit = refl

  -- nothing is read yet
  pub none-read : (n : ℕ) (input : List ℕ) (c : ℕ) → CanRelease limit c (n * share) → ReadSoFar limit share F (answer limit (elements n share F) input c) input [] n input c
  none-read n input c h = record { is_rest = after_none (answer limit (elements n share F) input c); is_reserved = h; is_after = ([], refl) }

  -- an array, after the claim of its elements
  module _ (n : ℕ) (input : List ℕ) (c d : ℕ) where
    pub array-decodes : (DecodesTo : Meaning → Type 0) (remaining : List ℕ) (after : ℕ) → ClaimSucceeds limit c (n * share) d →
        Decodes (λ ms. DecodesTo (list_meaning ms)) (answer limit (elements n share F) input d) remaining after →
        Decodes DecodesTo (answer limit (array n share F) input c) remaining after
    array-decodes DecodesTo remaining after h p = record {
      meaning = list_meaning p.meaning;
      answer_is = map-gave list_meaning limit (sequence n share F) input c p.meaning remaining after
          (answer-next limit (step (Reserve n share)) (λ _. elements n share F) input c tt input d (reserved_answer limit c n share d input h) ∙ p.answer_is);
      is_decoded = p.is_decoded;
    }

    pub array-stops : (end_error : ℕ → DecodeError → Type 0) (device : DeviceErrors) (H : Type 0) (before after : ℕ) (remaining : List ℕ) {now : ℕ} (e : DecodeError) →
        ClaimSucceeds limit c (n * share) d → DecodeFailure end_error device H (answer limit (elements n share F) input d) before after input remaining now e →
        DecodeFailure end_error device H (answer limit (array n share F) input c) before after input remaining now e
    array-stops end_error device H before after remaining {now} e h s =
        map-stops list_meaning end_error device H limit (sequence n share F) input c before after remaining e
        (subst (λ a. DecodeFailure end_error device H a before after input remaining now e)
        (sym (answer-next limit (step (Reserve n share)) (λ _. elements n share F) input c tt input d (reserved_answer limit c n share d input h))) s)

    -- whose claim passes the limit
    pub array-passed : (end_error : ℕ → DecodeError → Type 0) (device : DeviceErrors) (H : Type 0) (before after : ℕ) (remaining : List ℕ) {now : ℕ} (e : DecodeError) →
        ClaimFails limit c (n * share) d → e ≡ LimitExceeded → remaining ≡ input →
        DecodeFailure end_error device H (answer limit (array n share F) input c) before after input remaining now e
    array-passed end_error device H before after remaining e h k same =
        map-stops list_meaning end_error device H limit (sequence n share F) input c before after remaining e
        (by_limit (answer-then limit (step (Reserve n share)) (λ _. elements n share F) input c ∙ ap (λ o. and_then o (λ _ r after. answer limit (elements n share F) r after))
        (over_reserved_answer limit c n share d input h)) k ([], sym same))

-- one claim of several
pub one-releases : (limit : Option ℕ) (c share n : ℕ) → CanRelease limit c (suc n * share) → CanRelease limit c share
one-releases None c share n h = tt
one-releases (Some limit) c share n h = let k : suc n * share ≡ n * share + share = omega arith in omega arith

-- the other claims can be released after one was, as long as no more is
pub others-release : (limit : Option ℕ) (c share n d : ℕ) → CanRelease limit c (suc n * share) → after_release limit c share ≤ d → CanRelease limit d (n * share)
others-release None c share n d h le = tt
others-release (Some limit) c share n d h le = let k : suc n * share ≡ n * share + share = omega arith in omega arith

-- nothing was released; one more claim was
pub held-none : (limit : Option ℕ) (share start : ℕ) → ReleasesAtMost limit (0 * share) start start
held-none None share start = omega arith
held-none (Some limit) share start = omega arith

pub held-more : (limit : Option ℕ) (share n start c d : ℕ) → ReleasesAtMost limit (n * share) start c → after_release limit c share ≤ d → ReleasesAtMost limit ((n + 1) * share) start d
held-more None share n start c d h le = omega arith
held-more (Some limit) share n start c d h le = let k : (n + 1) * share ≡ n * share + share = omega arith in omega arith

-- one value more
pub is_list-push : {A : Type 0} (Is : A → Meaning → Type 0) (vs : List A) (ms : List Meaning) (v : A) (m : Meaning) → IsListOf Is vs (list_meaning ms) →
    Is v m → IsListOf Is (vs ++ v ∷ []) (list_meaning (ms ++ m ∷ []))
is_list-push Is [] [] v m h k = record { first = m; others = Nothing; meaning_is = refl; is_first = k; are_others = refl }
is_list-push Is [] (n ∷ ms) v m h k = absurd (cc)
is_list-push Is (w ∷ vs) [] v m h k = let e = h.meaning_is in absurd (cc)
is_list-push Is (w ∷ vs) (n ∷ ms) v m h k =
    let e = h.meaning_is in
    let a : h.first ≡ n = cc in
    let b : h.others ≡ list_meaning ms = cc in
    record { first = n; others = list_meaning (ms ++ m ∷ []); meaning_is = refl; is_first = subst (Is w) a h.is_first; are_others = is_list-push Is vs ms v m (subst (IsListOf Is vs) b h.are_others) k }

-- decoding from a charge that holds the claims of a run releases them
pub run-returns : {A : Type 0} (limit : Option ℕ) (n share : ℕ) (F : Format A) → IsLawful F → IsBalanced F →
    (input remaining : List ℕ) (ms : List A) (before after : ℕ) → CanRelease limit before (n * share) →
    answer limit (elements n share F) input before ≡ Gave ms remaining after → RoomReturned limit (elements n share F) (n * share) input remaining before after
run-returns None n share F f b input remaining ms before after h e =
    let p = gave-is_uncounted (elements n share F) (elements-lawful n share F f) input remaining ms before after e in
    record { meaning = ms; steps = p.0; begins = p.1; charge_is = p.2 }
run-returns (Some limit) n share F f b input remaining ms before after h e =
    let p = gave-recharged (elements n share F) (elements-lawful n share F f) (n * share) 0 (elements-holds n share F b) limit input remaining ms before after h e in
    let k = p.2 in
    record { meaning = ms; steps = p.0; begins = p.1; charge_is = omega arith }
