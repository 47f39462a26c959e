-- The answer of decoding: from a format, a limit, and the charge at the start.
use Rattle.std.specs.Prelude.{◌≡◌, ℕ, ◌+◌, ◌*◌, ◌-◌, ◌≤◌, nat_le, if◌then◌else◌, List, [], ◌∷◌, ◌++◌, Option, Some, None}
use Rattle.bincode_spec.specs.Fault.{Fault}
use Rattle.bincode_spec.specs.Charge.{Step, Charge, Reserve, Release}
use Rattle.bincode_spec.specs.Format.{Format, Reading, Took, Failed}

-- the limit allows this charge
abbrev pub Allows : Option ℕ → ℕ → Type 0
Allows None charge = Unit {0}
Allows (Some limit) charge = charge ≤ limit

-- the charge after a claim, if the limit allows it; without a limit nothing is counted
abbrev pub after_claim : Option ℕ → ℕ → ℕ → Option ℕ
after_claim None charge n = Some charge
after_claim (Some limit) charge n = if nat_le (charge + n) limit then Some (charge + n) else None

-- the charge after a release
abbrev pub after_release : Option ℕ → ℕ → ℕ → ℕ
after_release None charge n = charge
after_release (Some limit) charge n = charge - n

-- the charge after one step, if the limit allows it
abbrev pub after_step : Option ℕ → ℕ → Step → Option ℕ
after_step limit charge (Charge n) = after_claim limit charge n
after_step limit charge (Reserve n share) = after_claim limit charge (n * share)
after_step limit charge (Release n) = Some (after_release limit charge n)

abbrev pub on_some : Option ℕ → (ℕ → Option ℕ) → Option ℕ
on_some (Some n) next = next n
on_some None next = None

-- the charge after the steps, if none passes the limit
abbrev pub charge_after_steps : Option ℕ → ℕ → List Step → Option ℕ
charge_after_steps limit charge [] = Some charge
charge_after_steps limit charge (s ∷ steps) = on_some (after_step limit charge s) (λ after. charge_after_steps limit after steps)

-- a meaning, with the bytes after the word and the charge after its steps; a fault, with the charge after the steps
-- before it; or a step that passed the limit
pub data Answer (A : Type 0) : Type 0 where
  Gave : A → List ℕ → ℕ → Answer A
  Refused : Fault → ℕ → Answer A
  PassedLimit : Answer A

abbrev pub gave_at : {A : Type 0} → A → List ℕ → Option ℕ → Answer A
gave_at a remaining (Some charge) = Gave a remaining charge
gave_at a remaining None = PassedLimit

abbrev pub refused_at : {A : Type 0} → Fault → Option ℕ → Answer A
refused_at why (Some charge) = Refused why charge
refused_at why None = PassedLimit

-- the answer that a limit makes of a reading
abbrev pub weigh_reading : {A : Type 0} → Option ℕ → ℕ → Reading A → Answer A
weigh_reading limit charge (Took a remaining steps) = gave_at a remaining (charge_after_steps limit charge steps)
weigh_reading limit charge (Failed why steps) = refused_at why (charge_after_steps limit charge steps)

-- the answer to an input, from a charge
unfoldable pub answer : {A : Type 0} → Option ℕ → Format A → List ℕ → ℕ → Answer A
answer limit F input charge = weigh_reading limit charge (F.read input)

-- the steps of the word that begins the input, or those before its fault
pub data StepsOf {A : Type 0} (F : Format A) (input : List ℕ) (steps : List Step) : Type 0 where
  of_word : (word remaining : List ℕ) (meaning : A) → F.Word word meaning steps → input ≡ word ++ remaining → StepsOf F input steps
  of_fault : (why : Fault) → F.Faults input why steps → StepsOf F input steps
