-- The answer of decoding, part by part, and what each answer says of the words, the faults and the limit.
use Rattle.std.specs.Prelude.{◌≡◌, ℕ, ◌+◌, ◌*◌, ◌-◌, ◌<◌, ◌≤◌, ◌⊎◌, List, [], ◌∷◌, ◌++◌, refl, Option, Some, None}
use Rattle.std.proofs.Common.{sym, ◌∙◌, ap, subst, inl, inr, arith}
use Rattle.std.proofs.lemmas.Bool.{cases_lt, le-leb, lt-leb}
use Rattle.bincode_spec.specs.Fault.{Fault}
use Rattle.bincode_spec.specs.Charge.{Step, Charge, Reserve, Release, charged_bytes, reserved_bytes, released_bytes, charge_after, Passes, StaysWithin}
use Rattle.bincode_spec.specs.Format.{Format, Reading, Took, Failed, after_steps, then_read, pure, fail, step, ◌>>=◌}
use Rattle.bincode_spec.specs.Layers.Laws.{IsLawful, BeginsWith, IsBacked, IsBalanced, Settles, Holds}
use Rattle.bincode_lemmas.specs.Balance.{balanced-word, balanced-fault}
use Rattle.bincode_spec.specs.Answer.{StepsOf, of_word, of_fault, Allows, after_claim, after_release, after_step, on_some, charge_after_steps}
use Rattle.bincode_spec.specs.Answer.{Answer, Gave, Refused, PassedLimit, gave_at, refused_at, weigh_reading, answer}
use Rattle.bincode_lemmas.specs.Sequences.{and_then}

-- the answer, part by part

on_some_twice : (o : Option ℕ) (f g : ℕ → Option ℕ) → on_some (on_some o f) g ≡ on_some o (λ n. on_some (f n) g)
on_some_twice (Some n) f g = refl
on_some_twice None f g = refl

on_some_same : (o : Option ℕ) (f g : ℕ → Option ℕ) → ((n : ℕ) → f n ≡ g n) → on_some o f ≡ on_some o g
on_some_same (Some n) f g h = h n
on_some_same None f g h = refl

charge_after_append : (limit : Option ℕ) (charge : ℕ) (s t : List Step) → charge_after_steps limit charge (s ++ t) ≡ on_some (charge_after_steps limit charge s) (λ after. charge_after_steps limit after t)
charge_after_append limit charge [] t = refl
charge_after_append limit charge (x ∷ s) t =
    on_some_same (after_step limit charge x) (λ after. charge_after_steps limit after (s ++ t))
    (λ after. on_some (charge_after_steps limit after s) (λ last. charge_after_steps limit last t)) (λ after. charge_after_append limit after s t)
    ∙ sym (on_some_twice (after_step limit charge x) (λ after. charge_after_steps limit after s) (λ last. charge_after_steps limit last t))

module _ {A B : Type 0} (limit : Option ℕ) where
  gave_weighed : (a : A) (remaining : List ℕ) (m : B) (more : List ℕ) (t : List Step) (o : Option ℕ) →
      gave_at m more (on_some o (λ after. charge_after_steps limit after t)) ≡ and_then (gave_at a remaining o) (λ _ _ after. gave_at m more (charge_after_steps limit after t))
  gave_weighed a remaining m more t (Some n) = refl
  gave_weighed a remaining m more t None = refl

  refused_weighed : (a : A) (remaining : List ℕ) (why : Fault) (t : List Step) (o : Option ℕ) →
      refused_at {A = B} why (on_some o (λ after. charge_after_steps limit after t)) ≡ and_then (gave_at a remaining o) (λ _ _ after. refused_at why (charge_after_steps limit after t))
  refused_weighed a remaining why t (Some n) = refl
  refused_weighed a remaining why t None = refl

  weighed_after : (charge : ℕ) (a : A) (remaining : List ℕ) (s : List Step) (r : Reading B) →
      weigh_reading limit charge (after_steps s r) ≡ and_then (gave_at a remaining (charge_after_steps limit charge s)) (λ _ _ after. weigh_reading limit after r)
  weighed_after charge a remaining s (Took m more t) = ap (gave_at m more) (charge_after_append limit charge s t) ∙ gave_weighed a remaining m more t (charge_after_steps limit charge s)
  weighed_after charge a remaining s (Failed why t) = ap (refused_at {A = B} why) (charge_after_append limit charge s t) ∙ refused_weighed a remaining why t (charge_after_steps limit charge s)

  gave_on : (next : A → List ℕ → Reading B) (a : A) (remaining : List ℕ) (o : Option ℕ) →
      and_then (gave_at a remaining o) (λ _ _ after. weigh_reading limit after (next a remaining)) ≡ and_then (gave_at a remaining o) (λ m more after. weigh_reading limit after (next m more))
  gave_on next a remaining (Some n) = refl
  gave_on next a remaining None = refl

  refused_on : (next : A → List ℕ → ℕ → Answer B) (why : Fault) (o : Option ℕ) → refused_at {A = B} why o ≡ and_then (refused_at {A = A} why o) next
  refused_on next why (Some n) = refl
  refused_on next why None = refl

  weighed_then : (next : A → List ℕ → Reading B) (charge : ℕ) (r : Reading A) →
      weigh_reading limit charge (then_read r next) ≡ and_then (weigh_reading limit charge r) (λ a remaining after. weigh_reading limit after (next a remaining))
  weighed_then next charge (Took a remaining s) = weighed_after charge a remaining s (next a remaining) ∙ gave_on next a remaining (charge_after_steps limit charge s)
  weighed_then next charge (Failed why s) = refused_on (λ a remaining after. weigh_reading limit after (next a remaining)) why (charge_after_steps limit charge s)

-- The answer goes part by part.
pub answer-then : {A B : Type 0} (limit : Option ℕ) (F : Format A) (G : A → Format B) (input : List ℕ) (charge : ℕ) →
    answer limit (F >>= G) input charge ≡ and_then (answer limit F input charge) (λ a remaining after. answer limit (G a) remaining after)
unfolding answer ◌>>=◌
answer-then limit F G input charge = weighed_then limit (λ a remaining. (G a).read remaining) charge (F.read input)

-- A word without steps is given as it is read.
pub answer-took : {A : Type 0} (limit : Option ℕ) (F : Format A) (input remaining : List ℕ) (m : A) (charge : ℕ) → F.read input ≡ Took m remaining [] → answer limit F input charge ≡ Gave m remaining charge
unfolding answer
answer-took limit F input remaining m charge e = ap (weigh_reading limit charge) e

-- A fault without steps before it is refused.
pub answer-failed : {A : Type 0} (limit : Option ℕ) (F : Format A) (input : List ℕ) (why : Fault) (charge : ℕ) → F.read input ≡ Failed why [] → answer limit F input charge ≡ Refused why charge
unfolding answer
answer-failed limit F input why charge e = ap (weigh_reading limit charge) e

-- The empty word is given at once.
pub answer-pure : {A : Type 0} (limit : Option ℕ) (a : A) (input : List ℕ) (charge : ℕ) → answer limit (pure a) input charge ≡ Gave a input charge
unfolding answer pure
answer-pure limit a input charge = refl

-- A refusal is answered at once.
pub answer-fail : {A : Type 0} (limit : Option ℕ) (why : Fault) (input : List ℕ) (charge : ℕ) → answer limit (fail {A = A} why) input charge ≡ Refused why charge
unfolding answer fail
answer-fail limit why input charge = refl

-- A release is always answered.
pub answer-release : (limit : Option ℕ) (n : ℕ) (input : List ℕ) (charge : ℕ) → answer limit (step (Release n)) input charge ≡ Gave tt input (after_release limit charge n)
unfolding answer step
answer-release limit n input charge = refl

-- the charge after a claim that succeeds; without a limit nothing is counted
abbrev pub charge_after_claim : Option ℕ → ℕ → ℕ → ℕ
charge_after_claim None charge n = charge
charge_after_claim (Some limit) charge n = charge + n

-- if the limit allows the new charge, the claim succeeds
pub claim-stands : (limit : Option ℕ) (charge n : ℕ) → Allows limit (charge + n) → after_claim limit charge n ≡ Some (charge_after_claim limit charge n)
claim-stands None charge n h = refl
claim-stands (Some limit) charge n h = rw (le-leb (charge + n) limit h) refl

-- if it does not, the claim fails
pub claim-falls : (limit charge n : ℕ) → limit < charge + n → after_claim (Some limit) charge n ≡ None
claim-falls limit charge n h = rw (lt-leb (charge + n) limit h) refl

-- one step, by what it leaves of the charge
pub step-answered : (limit : Option ℕ) (change : Step) (input : List ℕ) (charge : ℕ) (o : Option ℕ) → after_step limit charge change ≡ o → answer limit (step change) input charge ≡ gave_at tt input o
unfolding answer step
step-answered limit change input charge (Some n) e = ap (λ z. gave_at tt input (on_some z (λ after. charge_after_steps limit after []))) e
step-answered limit change input charge None e = ap (λ z. gave_at tt input (on_some z (λ after. charge_after_steps limit after []))) e

-- the limit and the prefixes of the steps

-- the charge after steps that stay within the limit; without a limit nothing is counted
abbrev pub counted_after : Option ℕ → ℕ → List Step → ℕ
counted_after None charge steps = charge
counted_after (Some limit) charge steps = charge_after charge steps

-- either the charge after the steps is counted and they stay within the limit, or they pass it
data Weighing (limit : Option ℕ) (charge : ℕ) (steps : List Step) : Type 0 where
  stays : charge_after_steps limit charge steps ≡ Some (counted_after limit charge steps) → (Allows limit charge → StaysWithin limit charge steps) → Weighing limit charge steps
  passes : charge_after_steps limit charge steps ≡ None → Passes limit charge steps → Weighing limit charge steps

unlimited : (charge : ℕ) (steps : List Step) → charge_after_steps None charge steps ≡ Some charge
unlimited charge [] = refl
unlimited charge ((Charge n) ∷ steps) = unlimited charge steps
unlimited charge ((Reserve n share) ∷ steps) = unlimited charge steps
unlimited charge ((Release n) ∷ steps) = unlimited charge steps

module _ (limit charge : ℕ) where
  within_none : charge ≤ limit → StaysWithin (Some limit) charge []
  within_none h [] back e = omega arith
  within_none h (x ∷ front) back e = absurd (cc)

  within_step : (after : ℕ) (x : Step) (steps : List Step) → ((front : List Step) → charge_after charge (x ∷ front) ≡ charge_after after front) →
      charge ≤ limit → StaysWithin (Some limit) after steps → StaysWithin (Some limit) charge (x ∷ steps)
  within_step after x steps k h w [] back e = omega arith
  within_step after x steps k h w (y ∷ front) back e =
      let p : x ≡ y = cc in
      let q : charge_after after front ≤ limit = w front back (cc) in
      subst (λ z. charge_after charge (z ∷ front) ≤ limit) p (rw (k front) q)

  weigh_step : (after : ℕ) (x : Step) (steps : List Step) → after_step (Some limit) charge x ≡ Some after →
      ((front : List Step) → charge_after charge (x ∷ front) ≡ charge_after after front) → (charge ≤ limit → after ≤ limit) →
      Weighing (Some limit) after steps → Weighing (Some limit) charge (x ∷ steps)
  weigh_step after x steps e k l (stays p w) =
      stays (ap (λ z. on_some z (λ n. charge_after_steps (Some limit) n steps)) e ∙ p ∙ ap Some (sym (k steps))) (λ h. within_step after x steps k h (w (l h)))
  weigh_step after x steps e k l (passes p w) =
      passes (ap (λ z. on_some z (λ n. charge_after_steps (Some limit) n steps)) e ∙ p)
      (x ∷ w.0, w.1, ap (λ z. x ∷ z) w.2, rw (k w.0) w.3)

  weigh_claim : (n : ℕ) (x : Step) (steps : List Step) → after_step (Some limit) charge x ≡ after_claim (Some limit) charge n →
      ((front : List Step) → charge_after charge (x ∷ front) ≡ charge_after (charge + n) front) → (limit < charge + n) ⊎ (charge + n ≤ limit) →
      Weighing (Some limit) (charge + n) steps → Weighing (Some limit) charge (x ∷ steps)
  weigh_claim n x steps e k (inl h) w =
      passes (ap (λ z. on_some z (λ n. charge_after_steps (Some limit) n steps)) (e ∙ claim-falls limit charge n h))
      (x ∷ [], steps, refl, rw (k []) (omega arith))
  weigh_claim n x steps e k (inr h) w = weigh_step (charge + n) x steps (e ∙ claim-stands (Some limit) charge n h) k (λ _. h) w

module _ (held n : ℕ) (steps : List Step) where
  backed_charge : IsBacked held ((Charge n) ∷ steps) → IsBacked held steps
  backed_charge h front back e = h ((Charge n) ∷ front) back (cc)

  backed_reserve : (share : ℕ) → IsBacked held ((Reserve n share) ∷ steps) → IsBacked (held + n * share) steps
  backed_reserve share h front back e = let k : released_bytes front ≤ held + (n * share + reserved_bytes front) = h ((Reserve n share) ∷ front) back (cc) in omega arith

  backed_held : IsBacked held ((Release n) ∷ steps) → n ≤ held
  backed_held h = let k : n + 0 ≤ held + 0 = h ((Release n) ∷ []) steps refl in omega arith

  backed_release : IsBacked held ((Release n) ∷ steps) → IsBacked (held - n) steps
  backed_release h front back e =
      let l = backed_held h in
      let k : n + released_bytes front ≤ held + reserved_bytes front = h ((Release n) ∷ front) back (cc) in omega arith

weigh_limited : (limit charge held : ℕ) (steps : List Step) → IsBacked held steps → held ≤ charge → Weighing (Some limit) charge steps
weigh_limited limit charge held [] h k = let e : charge_after charge [] ≡ charge = omega arith in stays (ap Some (sym e)) (within_none limit charge)
weigh_limited limit charge held ((Charge n) ∷ steps) h k =
    weigh_claim limit charge n (Charge n) steps refl (λ front. omega arith) (cases_lt limit (charge + n)) (weigh_limited limit (charge + n) held steps (backed_charge held n steps h) (omega arith))
weigh_limited limit charge held ((Reserve n share) ∷ steps) h k =
    weigh_claim limit charge (n * share) (Reserve n share) steps refl (λ front. omega arith) (cases_lt limit (charge + n * share))
    (weigh_limited limit (charge + n * share) (held + n * share) steps (backed_reserve held n steps share h) (omega arith))
weigh_limited limit charge held ((Release n) ∷ steps) h k =
    let l = backed_held held n steps h in
    weigh_step limit charge (charge - n) (Release n) steps refl (λ front. omega arith) (λ m. omega arith)
    (weigh_limited limit (charge - n) (held - n) steps (backed_release held n steps h) (omega arith))

weigh : (limit : Option ℕ) (charge held : ℕ) (steps : List Step) → IsBacked held steps → held ≤ charge → Weighing limit charge steps
weigh None charge held steps h k = stays (unlimited charge steps) (λ _. tt)
weigh (Some limit) charge held steps h k = weigh_limited limit charge held steps h k

not_both : (limit : Option ℕ) (charge : ℕ) (steps : List Step) → StaysWithin limit charge steps → Passes limit charge steps → ⊥
not_both None charge steps h k = k
not_both (Some limit) charge steps h k = let l : charge_after charge k.0 ≤ limit = h k.0 k.1 k.2 in let m = k.3 in omega arith

module _ (limit : Option ℕ) (charge : ℕ) (steps : List Step) where
  weighing_counted : (after : ℕ) → charge_after_steps limit charge steps ≡ Some after → Weighing limit charge steps → after ≡ counted_after limit charge steps
  weighing_counted after e (stays p w) = cc
  weighing_counted after e (passes p w) = absurd (cc)

  weighing_stays : (after : ℕ) → charge_after_steps limit charge steps ≡ Some after → Allows limit charge → Weighing limit charge steps → StaysWithin limit charge steps
  weighing_stays after e h (stays p w) = w h
  weighing_stays after e h (passes p w) = absurd (cc)

  weighing_passes : charge_after_steps limit charge steps ≡ None → Weighing limit charge steps → Passes limit charge steps
  weighing_passes e (stays p w) = absurd (cc)
  weighing_passes e (passes p w) = w

  stays_weighing : StaysWithin limit charge steps → Weighing limit charge steps → charge_after_steps limit charge steps ≡ Some (counted_after limit charge steps)
  stays_weighing h (stays p w) = p
  stays_weighing h (passes p w) = absurd (not_both limit charge steps h w)

  passes_weighing : Passes limit charge steps → Allows limit charge → Weighing limit charge steps → charge_after_steps limit charge steps ≡ None
  passes_weighing h l (stays p w) = absurd (not_both limit charge steps (w l) h)
  passes_weighing h l (passes p w) = p

-- Steps that are backed lead to the charge that is counted.
pub after-counted : (limit : Option ℕ) (charge held : ℕ) (steps : List Step) (after : ℕ) → IsBacked held steps → held ≤ charge →
    charge_after_steps limit charge steps ≡ Some after → after ≡ counted_after limit charge steps
after-counted limit charge held steps after h k e = weighing_counted limit charge steps after e (weigh limit charge held steps h k)

-- Steps that lead to a charge stay within the limit.
pub after-stays : (limit : Option ℕ) (charge held : ℕ) (steps : List Step) (after : ℕ) → IsBacked held steps → held ≤ charge → Allows limit charge →
    charge_after_steps limit charge steps ≡ Some after → StaysWithin limit charge steps
after-stays limit charge held steps after h k l e = weighing_stays limit charge steps after e l (weigh limit charge held steps h k)

-- Steps that lead to no charge pass the limit.
pub after-passes : (limit : Option ℕ) (charge held : ℕ) (steps : List Step) → IsBacked held steps → held ≤ charge → charge_after_steps limit charge steps ≡ None → Passes limit charge steps
after-passes limit charge held steps h k e = weighing_passes limit charge steps e (weigh limit charge held steps h k)

-- Steps that stay within the limit lead to the charge that is counted.
pub stays-after : (limit : Option ℕ) (charge held : ℕ) (steps : List Step) → IsBacked held steps → held ≤ charge → StaysWithin limit charge steps →
    charge_after_steps limit charge steps ≡ Some (counted_after limit charge steps)
stays-after limit charge held steps h k w = stays_weighing limit charge steps w (weigh limit charge held steps h k)

-- Steps that pass the limit lead to no charge.
pub passes-after : (limit : Option ℕ) (charge held : ℕ) (steps : List Step) → IsBacked held steps → held ≤ charge → Allows limit charge →
    Passes limit charge steps → charge_after_steps limit charge steps ≡ None
passes-after limit charge held steps h k l w = passes_weighing limit charge steps w l (weigh limit charge held steps h k)

-- the answer and the language

-- the input begins with a word of this meaning, whose steps stay within the limit
pub record WordWithin {A : Type 0} (F : Format A) (limit : Option ℕ) (input : List ℕ) (meaning : A) (remaining : List ℕ) : Type 0 where
  pub word : List ℕ
  pub steps : List Step
  pub input_is : input ≡ word ++ remaining
  pub is_word : F.Word word meaning steps
  pub within : StaysWithin limit 0 steps

module _ {A : Type 0} (m : A) (remaining : List ℕ) (after : ℕ) where
  gave_at_is : (a : A) (more : List ℕ) (o : Option ℕ) → gave_at a more o ≡ Gave m remaining after → (a ≡ m) × (more ≡ remaining) × (o ≡ Some after)
  gave_at_is a more (Some n) e = (cc, cc, cc)
  gave_at_is a more None e = absurd (cc)

  refused_gave : (why : Fault) (o : Option ℕ) → refused_at why o ≡ Gave m remaining after → ⊥
  refused_gave why (Some n) e = cc
  refused_gave why None e = cc

  gave_by : (limit : Option ℕ) (charge : ℕ) (r : Reading A) → weigh_reading limit charge r ≡ Gave m remaining after →
      (steps : List Step) × (r ≡ Took m remaining steps) × (charge_after_steps limit charge steps ≡ Some after)
  gave_by limit charge (Took a more steps) e = let p = gave_at_is a more (charge_after_steps limit charge steps) e in (steps, rw (p.0, p.1) refl, p.2)
  gave_by limit charge (Failed why steps) e = absurd (refused_gave why (charge_after_steps limit charge steps) e)

module _ {A : Type 0} (why : Fault) (after : ℕ) where
  refused_at_is : (fault : Fault) (o : Option ℕ) → ◌≡◌ {A = Answer A} (refused_at fault o) (Refused why after) → (fault ≡ why) × (o ≡ Some after)
  refused_at_is fault (Some n) e = (cc, cc)
  refused_at_is fault None e = absurd (cc)

  gave_refused : (a : A) (remaining : List ℕ) (o : Option ℕ) → gave_at a remaining o ≡ Refused why after → ⊥
  gave_refused a remaining (Some n) e = cc
  gave_refused a remaining None e = cc

  refused_by : (limit : Option ℕ) (charge : ℕ) (r : Reading A) → weigh_reading limit charge r ≡ Refused why after →
      (steps : List Step) × (r ≡ Failed why steps) × (charge_after_steps limit charge steps ≡ Some after)
  refused_by limit charge (Took a remaining steps) e = absurd (gave_refused a remaining (charge_after_steps limit charge steps) e)
  refused_by limit charge (Failed fault steps) e = let p = refused_at_is fault (charge_after_steps limit charge steps) e in (steps, rw p.0 refl, p.1)

gave_passed : {A : Type 0} (a : A) (remaining : List ℕ) (o : Option ℕ) → gave_at a remaining o ≡ PassedLimit → o ≡ None
gave_passed a remaining (Some n) e = absurd (cc)
gave_passed a remaining None e = refl

refused_passed : {A : Type 0} (why : Fault) (o : Option ℕ) → ◌≡◌ {A = Answer A} (refused_at why o) PassedLimit → o ≡ None
refused_passed why (Some n) e = absurd (cc)
refused_passed why None e = refl

allowed_none : (limit : Option ℕ) → Allows limit 0
allowed_none None = tt
allowed_none (Some limit) = omega arith

module _ {A : Type 0} (F : Format A) (f : IsLawful F) (b : IsBalanced F) (limit : Option ℕ) where
  word_backed : (word : List ℕ) (m : A) (steps : List Step) → F.Word word m steps → IsBacked 0 steps
  word_backed word m steps u = let h = balanced-word F word m steps f b u in h.0

  fault_backed : (input : List ℕ) (why : Fault) (steps : List Step) → F.Faults input why steps → IsBacked 0 steps
  fault_backed input why steps h = balanced-fault F input why steps f b h

  -- What is given is a word within the limit.
  pub gave-word : (input remaining : List ℕ) (m : A) (after : ℕ) → answer limit F input 0 ≡ Gave m remaining after → WordWithin F limit input m remaining
  unfolding answer
  gave-word input remaining m after e =
      let p = gave_by m remaining after limit 0 (F.read input) e in
      let q = f.read_word input remaining m p.0 p.1 in
      record {
        word = q.word;
        steps = p.0;
        input_is = q.input_is;
        is_word = q.is_word;
        within = after-stays limit 0 0 p.0 after (word_backed q.word m p.0 q.is_word) (omega arith) (allowed_none limit) p.2;
      }

  -- What is refused has this fault, before which the limit is not passed.
  pub refused-fault : (input : List ℕ) (why : Fault) (after : ℕ) → answer limit F input 0 ≡ Refused why after → (steps : List Step) × F.Faults input why steps × StaysWithin limit 0 steps
  unfolding answer
  refused-fault input why after e =
      let p = refused_by why after limit 0 (F.read input) e in
      let q = f.read_fault input why p.0 p.1 in
      (p.0, q, after-stays limit 0 0 p.0 after (fault_backed input why p.0 q) (omega arith) (allowed_none limit) p.2)

  steps_backed : (input : List ℕ) (steps : List Step) → StepsOf F input steps → IsBacked 0 steps
  steps_backed input steps (of_word word remaining m u e) = word_backed word m steps u
  steps_backed input steps (of_fault why h) = fault_backed input why steps h

  passed_by : (input : List ℕ) (r : Reading A) → F.read input ≡ r → weigh_reading limit 0 r ≡ PassedLimit → (steps : List Step) × StepsOf F input steps × (charge_after_steps limit 0 steps ≡ None)
  passed_by input (Took m remaining steps) e h =
      let q = f.read_word input remaining m steps e in
      (steps, of_word q.word remaining m q.is_word q.input_is, gave_passed m remaining (charge_after_steps limit 0 steps) h)
  passed_by input (Failed why steps) e h = (steps, of_fault why (f.read_fault input why steps e), refused_passed {A = A} why (charge_after_steps limit 0 steps) h)

  -- Where the limit was passed, the steps pass it.
  pub passed-limit : (input : List ℕ) → answer limit F input 0 ≡ PassedLimit → (steps : List Step) × StepsOf F input steps × Passes limit 0 steps
  unfolding answer
  passed-limit input e =
      let p = passed_by input (F.read input) refl e in
      (p.0, p.1, after-passes limit 0 0 p.0 (steps_backed input p.0 p.1) (omega arith) p.2)

  -- A word within the limit is given.
  pub word-gave : (word remaining : List ℕ) (m : A) (steps : List Step) (charge : ℕ) → F.Word word m steps → StaysWithin limit charge steps →
      answer limit F (word ++ remaining) charge ≡ Gave m remaining (counted_after limit charge steps)
  unfolding answer
  word-gave word remaining m steps charge u w =
      ap (weigh_reading limit charge) (f.word_read word remaining m steps u)
      ∙ ap (gave_at m remaining) (stays-after limit charge 0 steps (word_backed word m steps u) (omega arith) w)

  -- A fault before which the limit is not passed is refused, with the charge after the steps before it.
  pub fault-refused : (input : List ℕ) (why : Fault) (steps : List Step) (charge : ℕ) → F.Faults input why steps → StaysWithin limit charge steps →
      answer limit F input charge ≡ Refused why (counted_after limit charge steps)
  unfolding answer
  fault-refused input why steps charge h w =
      ap (weigh_reading limit charge) (f.fault_read input why steps h)
      ∙ ap (refused_at why) (stays-after limit charge 0 steps (fault_backed input why steps h) (omega arith) w)

  weighed_passes : (input : List ℕ) (steps : List Step) (charge : ℕ) → StepsOf F input steps → charge_after_steps limit charge steps ≡ None → weigh_reading limit charge (F.read input) ≡ PassedLimit
  weighed_passes input steps charge (of_word word remaining m u e) h = ap (λ z. weigh_reading limit charge (F.read z)) e ∙ ap (weigh_reading limit charge) (f.word_read word remaining m steps u) ∙ ap (gave_at m remaining) h
  weighed_passes input steps charge (of_fault why h) k = ap (weigh_reading limit charge) (f.fault_read input why steps h) ∙ ap (refused_at why) k

  -- Steps that pass the limit are answered by that.
  pub passes-passed : (input : List ℕ) (steps : List Step) (charge : ℕ) → Allows limit charge → StepsOf F input steps → Passes limit charge steps → answer limit F input charge ≡ PassedLimit
  unfolding answer
  passes-passed input steps charge l s w = weighed_passes input steps charge s (passes-after limit charge 0 steps (steps_backed input steps s) (omega arith) l w)

-- A word charges its full width, and releases what was held before and is not held after.
pub gave-recharged :
    {A : Type 0} (F : Format A) (f : IsLawful F) (held left : ℕ) (b : Holds held left F) (limit : ℕ) (input remaining : List ℕ) (m : A) (charge after : ℕ) →
    held ≤ charge → answer (Some limit) F input charge ≡ Gave m remaining after →
    (steps : List Step) × BeginsWith F input m remaining steps × (after + held ≡ charge + charged_bytes steps + left)
unfolding answer
gave-recharged F f held left b limit input remaining m charge after le e =
    let p = gave_by m remaining after (Some limit) charge (F.read input) e in
    let h : Settles held left (Took m remaining p.0) = subst (Settles held left) p.1 (b.settles input) in
    let k : after ≡ charge_after charge p.0 = after-counted (Some limit) charge held p.0 after h.0 le p.2 in
    let r : held + reserved_bytes p.0 ≡ left + released_bytes p.0 = h.1 in
    (p.0, f.read_word input remaining m p.0 p.1, omega arith)

-- Without a limit nothing is counted.
pub gave-is_uncounted : {A : Type 0} (F : Format A) (f : IsLawful F) (input remaining : List ℕ) (m : A) (charge after : ℕ) →
    answer None F input charge ≡ Gave m remaining after → (steps : List Step) × BeginsWith F input m remaining steps × (after ≡ charge)
unfolding answer
gave-is_uncounted F f input remaining m charge after e =
    let p = gave_by m remaining after None charge (F.read input) e in
    (p.0, f.read_word input remaining m p.0 p.1, is_uncounted charge p.0 after p.2)
  where
    is_uncounted : (charge : ℕ) (steps : List Step) (after : ℕ) → charge_after_steps None charge steps ≡ Some after → after ≡ charge
    is_uncounted charge [] after e = cc
    is_uncounted charge ((Charge n) ∷ steps) after e = is_uncounted charge steps after e
    is_uncounted charge ((Reserve n share) ∷ steps) after e = is_uncounted charge steps after e
    is_uncounted charge ((Release n) ∷ steps) after e = is_uncounted charge steps after e

-- A balanced one charges its full width.
pub gave-charge : {A : Type 0} (F : Format A) (f : IsLawful F) (b : IsBalanced F) (limit : ℕ) (input remaining : List ℕ) (m : A) (charge after : ℕ) →
    answer (Some limit) F input charge ≡ Gave m remaining after → (steps : List Step) × BeginsWith F input m remaining steps × (after ≡ charge + charged_bytes steps)
gave-charge F f b limit input remaining m charge after e =
    let p = gave-recharged F f 0 0 b limit input remaining m charge after (omega arith) e in
    let k = p.2 in
    (p.0, p.1, omega arith)

-- A whole word releases no more than it claims.
pub gave-grows : {A : Type 0} (F : Format A) (f : IsLawful F) (b : IsBalanced F) (limit : ℕ) (input remaining : List ℕ) (m : A) (charge after : ℕ) →
    answer (Some limit) F input charge ≡ Gave m remaining after → charge ≤ after
gave-grows F f b limit input remaining m charge after e = let p = gave-charge F f b limit input remaining m charge after e in let k = p.2 in omega arith
