-- What two parts allow one after the other, and what an answer is followed by.
use Rattle.std.specs.Prelude.{◌≡◌, ℕ, List, ◌++◌, ◌+◌, [], ◌∷◌, ◌-◌}
use Rattle.bincode_spec.specs.Answer.{Answer, Gave, Refused, PassedLimit, answer}

-- what one part allows, then what the other does
abbrev pub Both : (List ℕ → Type 0) → (List ℕ → Type 0) → List ℕ → Type 0
Both First Second bytes = (x y : List ℕ) × (bytes ≡ x ++ y) × First x × Second y

-- what each value allows, in order
abbrev pub AllowsEach : {A : Type 0} → (A → List ℕ → Type 0) → List A → List ℕ → Type 0
AllowsEach Allowed [] bytes = bytes ≡ []
AllowsEach Allowed (v ∷ vs) bytes = Both (Allowed v) (AllowsEach Allowed vs) bytes

-- what follows an answer that gave a meaning
abbrev pub and_then : {A B : Type 0} → Answer A → (A → List ℕ → ℕ → Answer B) → Answer B
and_then (Gave a remaining charge) next = next a remaining charge
and_then (Refused why charge) next = Refused why charge
and_then PassedLimit next = PassedLimit
