-- The state that a snapshot and the rest of a log come to.
use Rattle.std.specs.Prelude.{◌≡◌, ◌+◌, ◌++◌, ℕ, List, length, Option}
use Rattle.bincode_spec.specs.Format.{Format}
use Rattle.bincode_spec.specs.Meaning.{Meaning}
use Rattle.replay.specs.Replays.{Run, FramesOf, EndsLog}
use Rattle.replay.specs.declared.replay.Replayed.{Replayed}
use Rattle.snapshots.specs.Numbers.{NumberedBelow, NumberedFrom, without_numbers}

-- If earlier commands led to the old state, and the log's are some of these and then others that are numbered in a row
-- from the old state's number on, the new state is that of the earlier ones and the others.
abbrev pub IsWhole : {S A : Type 0} → (S → A → S → Type 0) → List (ℕ × A) → ℕ × S → ℕ × S → Type 0
IsWhole {S} {A} applies commands old new = (first : S) (earlier : List A) → Run applies first earlier old.1 → old.0 ≡ length earlier →
    (passed others : List (ℕ × A)) → commands ≡ passed ++ others → NumberedBelow old.0 passed → NumberedFrom old.0 others →
    Run applies first (earlier ++ without_numbers others) new.1 × (new.0 ≡ length (earlier ++ without_numbers others))

-- all whole frames of the log hold commands with numbers, which continue the old state
pub record Continues {S A : Type 0} (applies : S → A → S → Type 0) (F : Format Meaning) (limit : Option ℕ) (decodes_to : Meaning → ℕ × A → Type 0) (most : ℕ) (log : List ℕ) (old new : ℕ × S) (replayed : Replayed) : Type 0 where
  pub commands : List (ℕ × A)
  pub rest : List ℕ
  pub frames : FramesOf F limit decodes_to most log commands rest
  pub ends : EndsLog most rest replayed.is_torn
  pub count : replayed.commands ≡ length commands
  pub whole : IsWhole applies commands old new

-- some commands lead from one state to another, whose number is greater by theirs
pub record Advances {S A : Type 0} (applies : S → A → S → Type 0) (old new : ℕ × S) : Type 0 where
  pub commands : List A
  pub run : Run applies old.1 commands new.1
  pub count : new.0 ≡ old.0 + length commands
