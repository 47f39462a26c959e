-- What a log of commands is recovered to.
use Rattle.std.specs.Prelude.{◌≡◌, ℕ, List, length, Option, Bool}
use Rattle.bincode_spec.specs.Format.{Format}
use Rattle.bincode_spec.specs.Meaning.{Meaning}
use Rattle.framed_store.specs.Pieces.{Piece}
use Rattle.replay.specs.declared.replay.Failure.{Failure}
use Rattle.replay.specs.declared.replay.Failure.TheVariants as failures
use Rattle.replay.specs.declared.replay.Replayed.{Replayed}
use Rattle.replay.specs.Recovered.{EqualTo}
use Rattle.replay.specs.Replays.{Run, IsStop}
use Rattle.crash_device.specs.Files.{Files}
use Rattle.crash_device.specs.Moments.{Only}
use Rattle.durable_log.specs.declared.recovering.RecoverError.{RecoverError}
use Rattle.durable_log.specs.declared.recovering.RecoverError.TheVariants.{Device, Replay}

-- commands equal to these led from one state to another, and are counted
pub record IsRecovered {S A : Type 0} (eq : A → A → Bool) (applies : S → A → S → Type 0) (pieces : List (Piece A)) (old new : S) (replayed : Replayed) : Type 0 where
  pub commands : List A
  pub equal : EqualTo eq pieces commands
  pub run : Run applies old commands new
  pub count : replayed.commands ≡ length pieces

-- the error says that the machine refused a command, a read failed or an allocation was refused: any such error
abbrev pub IsOutside : {E : Type 0} → Failure E → Type 0
IsOutside (failures.Refused _) = Unit {0}
IsOutside (failures.Read _) = Unit {0}
IsOutside (failures.Memory _) = Unit {0}
IsOutside failures.Damaged = ⊥
IsOutside (failures.Undecodable _) = ⊥
IsOutside (failures.Longer _) = ⊥
IsOutside (failures.TooLong _) = ⊥

-- or the device failed
abbrev pub ComesFromOutside : {E : Type 0} → RecoverError E → Type 0
ComesFromOutside (Device _) = Unit {0}
ComesFromOutside (Replay e) = IsOutside e.why

-- the files are as they were, and the replay stopped there
abbrev pub StopsIn : {S A E D : Type 0} → (S → A → S → Type 0) → (S → A → E → Type 0) → Format Meaning → Option ℕ → (Meaning → A → Type 0) → ℕ → (D → Files) → (D → Files → Type 0) → D → D → S → S → RecoverError E → Type 0
StopsIn applies refuses F limit decodes_to most seen may_leave before after old new (Device e) = Unit {0}
StopsIn applies refuses F limit decodes_to most seen may_leave before after old new (Replay e) =
    (seen after ≡ seen before) × Only (seen before) (may_leave after) × IsStop applies refuses F limit decodes_to most (seen before).log old new e
