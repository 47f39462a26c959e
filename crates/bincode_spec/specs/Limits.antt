-- How large a limit has to be.
use Rattle.std.specs.Prelude.{ℕ, ◌≤◌, List, Option, Some, None}
use Rattle.bincode_spec.specs.Charge.{Step, StaysWithin}
use Rattle.bincode_spec.specs.Format.{Format}
use Rattle.bincode_spec.specs.Meaning.{Meaning}

-- the second limit allows all that the first does
abbrev pub IsNoTighter : Option ℕ → Option ℕ → Type 0
IsNoTighter small None = Unit {0}
IsNoTighter None (Some large) = ⊥
IsNoTighter (Some small) (Some large) = small ≤ large

-- the steps of this word stay within the limit
abbrev pub FitsLimit : Format Meaning → Option ℕ → List ℕ → Type 0
FitsLimit F limit word = (m : Meaning) (s : List Step) → F.Word word m s → StaysWithin limit 0 s
