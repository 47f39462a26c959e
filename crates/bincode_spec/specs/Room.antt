-- How much a word within a limit can hold.
use Rattle.std.specs.Prelude.{ℕ, ◌+◌, ◌*◌, ◌/◌, ◌≤◌, ◌==◌, if◌then◌else◌, List, [], ◌∷◌, length}
use Rattle.bincode_spec.specs.Charge.{Step, Charge, Reserve, Release}

-- P holds of each container of a word, by its number of elements and the claim of one: these are reserved for each
abbrev pub EachContainer : (ℕ → ℕ → Type 0) → List Step → Type 0
EachContainer P [] = Unit {0}
EachContainer P ((Charge n) ∷ steps) = EachContainer P steps
EachContainer P ((Reserve n share) ∷ steps) = P n share × EachContainer P steps
EachContainer P ((Release n) ∷ steps) = EachContainer P steps

-- the number of elements of all containers that follow a length prefix, for which 8 bytes are charged; `last` is the
-- last charge
abbrev pub elements_after : ℕ → List Step → ℕ
elements_after last [] = 0
elements_after last ((Charge n) ∷ steps) = elements_after n steps
elements_after last ((Reserve n share) ∷ steps) = (if last == 8 then n else 0) + elements_after 0 steps
elements_after last ((Release n) ∷ steps) = elements_after 0 steps

-- A word within a limit is at most one and a half times as long as the limit. Each of its containers claims no more
-- than the limit, and so has no more elements; those with a length prefix have in all at most the limit times an eighth
-- of it.
pub record IsWithinBounds (limit : ℕ) (word : List ℕ) (steps : List Step) : Type 0 where
  pub bytes : length word ≤ limit + limit / 2
  pub room : EachContainer (λ n share. n * share ≤ limit) steps
  pub counts : EachContainer (λ n share. n ≤ limit) steps
  pub all_counts : elements_after 0 steps ≤ limit * (limit / 8)
