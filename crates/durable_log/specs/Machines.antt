-- Machines on a device, and the commands that its files stand for.
use Rattle.std.specs.Prelude.{◌≡◌, ◌⊎◌, ◌<◌, ◌^◌, ◌++◌, ℕ, List, [], ◌∷◌, length, take, Option, Bool, true}
use Rattle.bincode_base.specs.Setting.{Setting}
use Rattle.bincode_spec.specs.Format.{Format}
use Rattle.bincode_spec.specs.Meaning.{Meaning}
use Rattle.bincode_types.specs.TypeWords.{Words}
use Rattle.framed_store.specs.Pieces.{Piece}
use Rattle.replay.specs.Replays.{Run, IsReplay}
use Rattle.replay.specs.declared.replay.Replayed.{Replayed}
use Rattle.snapshots.specs.declared.resuming.ResumeError.TheVariants.{Snapshot, Log}
use Rattle.snapshots.specs.Numbers.{AppliesNext}
use Rattle.snapshots.specs.Resuming.{HoldBelow, HoldFrom, IsResumeFault, held_by}
use Rattle.snapshots.specs.Saved.{IsSavedAs, IsRestored, IsRestoreMemory}
use Rattle.snapshots.specs.Snapshots.{IsSaveMemory}
use Rattle.crash_device.specs.Files.{Files}
use Rattle.crash_device.specs.Moments.{Only}
use Rattle.durable_log.specs.declared.machines.ComeBackError.{ComeBackError}
use Rattle.durable_log.specs.declared.machines.ComeBackError.TheVariants as returning
use Rattle.durable_log.specs.declared.machines.CompactError.{CompactError}
use Rattle.durable_log.specs.declared.machines.CompactError.TheVariants as compacting
use Rattle.durable_log.specs.Recovering.{IsOutside}
use Rattle.durable_log.specs.Standing.{IsLogOf, StandsFor}

-- each of the others is the command at its place, or equals it
abbrev pub AreOrEqual : {A : Type 0} → (A → A → Bool) → List A → List A → Type 0
AreOrEqual eq [] [] = Unit {0}
AreOrEqual eq (command ∷ commands) (other ∷ others) = ((other ≡ command) ⊎ (eq command other ≡ true)) × AreOrEqual eq commands others
AreOrEqual eq [] (_ ∷ _) = ⊥
AreOrEqual eq (_ ∷ _) [] = ⊥

-- these commands, or equal ones, led from the first state to this one, and its number is theirs
pub record HasCome {S A : Type 0} (eq : A → A → Bool) (applies : S → A → S → Type 0) (first : S) (commands : List A) (now : ℕ × S) : Type 0 where
  pub led : List A
  pub equal : AreOrEqual eq commands led
  pub run : Run applies first led now.1
  pub count : now.0 ≡ length commands

-- The files hold these commands. The earlier ones led to the machine that is saved in the snapshot. The log has frames of
-- some of these, and then of the others, in a row from the snapshot's number on.
pub record FilesHold {A M S B : Type 0} (stands_for : A → M → Type 0) (V : Words A) (state : M → S) (eq : B → B → Bool) (applies : S → B → S → Type 0) (s : Setting) (limit : Option ℕ)
    (OfLog : List (Piece (ℕ × B)) → List ℕ → Type 0) (first : S) (commands : List B) (files : Files) : Type 0 where
  pub earlier : List B
  pub saved : M
  pub has_come : HasCome eq applies first earlier (length earlier, state saved)
  pub is_number : length earlier < 2 ^ 64
  pub is_saved : IsSavedAs stands_for V s limit (length earlier) saved files.snapshot
  pub passed : List (Piece (ℕ × B))
  pub others : List (Piece (ℕ × B))
  pub hold_below : HoldBelow (length earlier) passed
  pub hold_from : HoldFrom (length earlier) others
  pub of_log : OfLog (passed ++ others) files.log
  pub commands_are : commands ≡ earlier ++ held_by others

-- the frames stand whole in the log, and after them at most a part of the next
abbrev pub FilesStandFor : {A M S B : Type 0} → (A → M → Type 0) → Words A → (M → S) → (B → B → Bool) → (S → B → S → Type 0) → Words (ℕ × B) → Setting → Option ℕ → ℕ → S → List B → Files → Type 0
FilesStandFor stands_for V state eq applies W s limit most first commands files = FilesHold stands_for V state eq applies s limit (StandsFor W s limit most) first commands files

-- the log is these frames alone, so that another can follow
abbrev pub FilesAreOf : {A M S B : Type 0} → (A → M → Type 0) → Words A → (M → S) → (B → B → Bool) → (S → B → S → Type 0) → Words (ℕ × B) → Setting → Option ℕ → ℕ → S → List B → Files → Type 0
FilesAreOf stands_for V state eq applies W s limit most first commands files = FilesHold stands_for V state eq applies s limit (IsLogOf W s limit most) first commands files

-- the files stand for these commands, or for these and one more
abbrev pub FilesBeforeOrAfter : {A M S B : Type 0} → (A → M → Type 0) → Words A → (M → S) → (B → B → Bool) → (S → B → S → Type 0) → Words (ℕ × B) → Setting → Option ℕ → ℕ → S → List B → B → Files → Type 0
FilesBeforeOrAfter stands_for V state eq applies W s limit most first commands command files =
    FilesStandFor stands_for V state eq applies W s limit most first commands files ⊎ FilesStandFor stands_for V state eq applies W s limit most first (commands ++ command ∷ []) files

-- a snapshot of this machine after this many commands, and an empty log
abbrev pub IsSnapshotAlone : {A M : Type 0} → (A → M → Type 0) → Words A → Setting → Option ℕ → ℕ → M → Files → Type 0
IsSnapshotAlone stands_for V s limit number machine files = IsSavedAs stands_for V s limit number machine files.snapshot × (files.log ≡ [])

-- A machine was restored from the snapshot, and the commands of all whole frames of the log led it to the new state. The
-- log was cut after these frames.
pub record ComesFrom {A M S B : Type 0} (stands_for : A → M → Type 0) (applies : S → B → S → Type 0) (state : M → S) (F : Format Meaning) (decodes_to : Meaning → A → Type 0)
    (G : Format Meaning) (commands_to : Meaning → ℕ × B → Type 0) (limit : Option ℕ) (most : ℕ) (old new : Files) (now : ℕ × S) : Type 0 where
  pub number : ℕ
  pub machine : M
  pub restored : IsRestored stands_for F limit decodes_to old.snapshot number machine
  pub replayed : Replayed
  pub is_replay : IsReplay (AppliesNext applies) G limit commands_to most old.log (number, state machine) now replayed
  pub is_cut : new ≡ record old { log = take replayed.length old.log }

-- the files are as they were, and what is wrong with them is told
abbrev pub IsRefused : {A M S B E D : Type 0} → (A → M → Type 0) → (S → B → S → Type 0) → (S → B → E → Type 0) → (M → S) → Format Meaning → (Meaning → A → Type 0) → Format Meaning → (Meaning → ℕ × B → Type 0) → Option ℕ → ℕ
    → (D → Files) → (D → Files → Type 0) → D → D → ComeBackError E → Type 0
IsRefused stands_for applies refuses state F decodes_to G commands_to limit most seen may_leave before after (returning.Device _) = Unit {0}
IsRefused stands_for applies refuses state F decodes_to G commands_to limit most seen may_leave before after (returning.Files why) =
    (seen after ≡ seen before) × Only (seen before) (may_leave after)
    × IsResumeFault stands_for applies refuses state F decodes_to G commands_to limit most (seen before).snapshot (seen before).log why

-- the error says that the device failed, the machine refused a command, a read failed or an allocation was refused: any
-- such error
abbrev pub HasOutsideCause : {E : Type 0} → ComeBackError E → Type 0
HasOutsideCause (returning.Device _) = Unit {0}
HasOutsideCause (returning.Files (Snapshot why)) = IsRestoreMemory why
HasOutsideCause (returning.Files (Log e)) = IsOutside e.why

-- the error is one of memory for the snapshot, or of the device: any such error
abbrev pub StopsFromOutside : CompactError → Type 0
StopsFromOutside (compacting.Save why) = IsSaveMemory why
StopsFromOutside (compacting.Device _) = Unit {0}

-- without a snapshot the device was not called
abbrev pub IsUncalled : {D : Type 0} → D → D → CompactError → Type 0
IsUncalled old new (compacting.Save _) = new ≡ old
IsUncalled old new (compacting.Device _) = Unit {0}
