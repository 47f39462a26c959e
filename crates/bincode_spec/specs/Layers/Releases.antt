-- The room of a run of values that is given back while they are read.
use Rattle.std.specs.Prelude.{◌≡◌, ℕ, ◌+◌, ◌≤◌, List, Option, Some, None}
use Rattle.bincode_spec.specs.Charge.{Step, charged_bytes}
use Rattle.bincode_spec.specs.Layers.Laws.{BeginsWith}
use Rattle.bincode_spec.specs.Format.{Format}

-- n bytes of the charge can be released; without a limit nothing is counted
abbrev pub CanRelease : Option ℕ → ℕ → ℕ → Type 0
CanRelease None charge n = Unit {0}
CanRelease (Some limit) charge n = n ≤ charge

-- no more than this was released; without a limit nothing is counted
abbrev pub ReleasesAtMost : Option ℕ → ℕ → ℕ → ℕ → Type 0
ReleasesAtMost None room before after = before ≤ after
ReleasesAtMost (Some limit) room before after = before ≤ after + room

-- the charge after steps that released `room`: their full widths stand in its place; without a limit nothing is counted
abbrev pub IsRecharged : Option ℕ → ℕ → List Step → ℕ → ℕ → Type 0
IsRecharged None room steps before after = after ≡ before
IsRecharged (Some limit) room steps before after = after + room ≡ before + charged_bytes steps

-- a word was read, and the claim that was reserved for it was released
pub record RoomReturned {A : Type 0} (limit : Option ℕ) (F : Format A) (room : ℕ) (input remaining : List ℕ) (before after : ℕ) : Type 0 where
  pub meaning : A
  pub steps : List Step
  pub begins : BeginsWith F input meaning remaining steps
  pub charge_is : IsRecharged limit room steps before after
