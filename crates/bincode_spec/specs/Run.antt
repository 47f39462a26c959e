-- Runs of values: their meanings, their words, and the claims that are reserved for them.
use Rattle.std.specs.Prelude.{◌≡◌, List, [], ◌∷◌}
use Rattle.bincode_spec.specs.Meaning.{Meaning, Nothing, IsThen}

-- the meaning is a list of what the values mean, one by one
abbrev pub IsListOf : {A : Type 0} → (A → Meaning → Type 0) → List A → Meaning → Type 0
IsListOf Is [] = λ m. m ≡ Nothing
IsListOf Is (v ∷ vs) = IsThen (Is v) (IsListOf Is vs)
