-- Commands with their numbers, and what they do to a state that knows how many commands came before it.
use Rattle.std.specs.Prelude.{◌≡◌, ◌+◌, ◌<◌, ◌^◌, ◌⊎◌, ℕ, List, [], ◌∷◌, map}
use Rattle.snapshots.specs.declared.numbered.NumberedRefusal.{NumberedRefusal}
use Rattle.snapshots.specs.declared.numbered.NumberedRefusal.TheVariants as refusals

-- a command of an earlier number is passed over, and the one of the state's number is applied
abbrev pub AppliesNext : {S A : Type 0} → (S → A → S → Type 0) → ℕ × S → ℕ × A → ℕ × S → Type 0
AppliesNext applies old command new = ((command.0 < old.0) × (new ≡ old)) ⊎ ((command.0 ≡ old.0) × (new.0 ≡ old.0 + 1) × applies old.1 command.1 new.1)

-- the machine refuses the command of the state's number; or that number is not the command's; or it is the last there is
abbrev pub RefusesNext : {S A E : Type 0} → (S → A → E → Type 0) → ℕ × S → ℕ × A → NumberedRefusal E → Type 0
RefusesNext refuses state command (refusals.Refused why) = (command.0 ≡ state.0) × refuses state.1 command.1 why
RefusesNext refuses state command (refusals.Missing expected found) = (expected ≡ state.0) × (found ≡ command.0) × (expected < found)
RefusesNext refuses state command refusals.NoNumber = (command.0 ≡ state.0) × (state.0 + 1 ≡ 2 ^ 64)

-- the commands are numbered in a row, from this number on
abbrev pub NumberedFrom : {A : Type 0} → ℕ → List (ℕ × A) → Type 0
NumberedFrom number [] = Unit {0}
NumberedFrom number (command ∷ commands) = (command.0 ≡ number) × NumberedFrom (number + 1) commands

-- they have numbers below this one
abbrev pub NumberedBelow : {A : Type 0} → ℕ → List (ℕ × A) → Type 0
NumberedBelow number [] = Unit {0}
NumberedBelow number (command ∷ commands) = (command.0 < number) × NumberedBelow number commands

-- without their numbers
abbrev pub without_numbers : {A : Type 0} → List (ℕ × A) → List A
without_numbers commands = map (λ command. command.1) commands
