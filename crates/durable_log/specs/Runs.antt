-- Runs of commands that are appended to a log.
use Rattle.std.specs.Prelude.{◌≡◌, ◌++◌, ℕ, List, [], ◌∷◌, take, Option}
use Rattle.bincode_base.specs.Setting.{Setting}
use Rattle.bincode_types.specs.TypeWords.{Words}
use Rattle.framed_store.specs.Pieces.{Piece, FrameOf, Damage}
use Rattle.crash_device.specs.Files.{Files}
use Rattle.durable_log.specs.Standing.{IsLogOf, StandsFor}

-- the frames are those of these commands, in order
abbrev pub AreOf : {A : Type 0} → List (Piece A) → List A → Type 0
AreOf [] [] = Unit {0}
AreOf (FrameOf value _ ∷ pieces) (command ∷ commands) = (value ≡ command) × AreOf pieces commands
AreOf (Damage _ ∷ pieces) (_ ∷ commands) = ⊥
AreOf [] (_ ∷ _) = ⊥
AreOf (_ ∷ _) [] = ⊥

-- the log is that of some commands and of these
abbrev pub IsLogAfter : {A : Type 0} → Words A → Setting → Option ℕ → ℕ → List (Piece A) → List A → List ℕ → Type 0
IsLogAfter {A} W s limit most pieces commands log = (added : List (Piece A)) × AreOf added commands × IsLogOf W s limit most (pieces ++ added) log

-- the log stands for some commands and the first of these; the snapshot is as it was
abbrev pub StandsForPart : {A : Type 0} → Words A → Setting → Option ℕ → ℕ → List (Piece A) → List A → Files → Files → Type 0
StandsForPart {A} W s limit most pieces commands old new =
    (n : ℕ) × (added : List (Piece A)) × AreOf added (take n commands) × StandsFor W s limit most (pieces ++ added) new.log × (new.snapshot ≡ old.snapshot)
