-- What reading charges against a limit.
use Rattle.std.specs.Prelude.{◌≡◌, ℕ, ◌+◌, ◌*◌, ◌-◌, ◌<◌, ◌≤◌, List, [], ◌∷◌, ◌++◌, Option, Some, None}

-- A change of the charge. What is read is charged. A container reserves `n` times the claim of an element, and releases
-- it element by element.
pub data Step : Type 0 where
  Charge : ℕ → Step
  Reserve : ℕ → ℕ → Step
  Release : ℕ → Step

-- all that is charged for what is read
abbrev pub charged_bytes : List Step → ℕ
charged_bytes [] = 0
charged_bytes ((Charge n) ∷ steps) = n + charged_bytes steps
charged_bytes (_ ∷ steps) = charged_bytes steps

-- all that is reserved
abbrev pub reserved_bytes : List Step → ℕ
reserved_bytes [] = 0
reserved_bytes ((Reserve n share) ∷ steps) = n * share + reserved_bytes steps
reserved_bytes (_ ∷ steps) = reserved_bytes steps

-- all that is released
abbrev pub released_bytes : List Step → ℕ
released_bytes [] = 0
released_bytes ((Release n) ∷ steps) = n + released_bytes steps
released_bytes (_ ∷ steps) = released_bytes steps

-- the charge after these steps
abbrev pub charge_after : ℕ → List Step → ℕ
charge_after charge steps = charge + charged_bytes steps + reserved_bytes steps - released_bytes steps

-- some prefix of the steps brings the charge above the limit; never without one
abbrev pub Passes : Option ℕ → ℕ → List Step → Type 0
Passes None charge steps = ⊥
Passes (Some limit) charge steps = (front : List Step) × (back : List Step) × (steps ≡ front ++ back) × (limit < charge_after charge front)

-- no prefix of the steps passes the limit
abbrev pub StaysWithin : Option ℕ → ℕ → List Step → Type 0
StaysWithin None charge steps = Unit {0}
StaysWithin (Some limit) charge steps = (front back : List Step) → steps ≡ front ++ back → charge_after charge front ≤ limit
