-- The status of a run over several files.
use Rattle.std.specs.Prelude.{◌≡◌, ◌≤◌, ◌⊎◌, ◌++◌, ℕ, List, ◌∷◌, All}

-- the greatest of some numbers, or 0 of none
pub record IsGreatest (ns : List ℕ) (n : ℕ) : Type 0 where
  pub none_above : All (λ m. m ≤ n) ns
  pub is_one : (n ≡ 0) ⊎ ((before after : List ℕ) × (ns ≡ before ++ n ∷ after))
