-- The state that a snapshot and a log come to, of which it is known what was saved and what was appended.
use Rattle.std.specs.Prelude.{◌≡◌, ◌+◌, ◌-◌, ◌<◌, ◌++◌, ◌⊎◌, ℕ, List, [], ◌∷◌, length, Option, Bool, true}
use Rattle.bincode_spec.specs.Format.{Format}
use Rattle.bincode_spec.specs.Meaning.{Meaning}
use Rattle.framed_store.specs.Pieces.{Piece, FrameOf, Damage, bytes_of_all, LacksRoom}
use Rattle.replay.specs.Replays.{Run, IsStop}
use Rattle.replay.specs.declared.replay.Replayed.{Replayed}
use Rattle.snapshots.specs.declared.resuming.ResumeError.{ResumeError}
use Rattle.snapshots.specs.declared.resuming.ResumeError.TheVariants as failures
use Rattle.snapshots.specs.Numbers.{AppliesNext, RefusesNext}
use Rattle.snapshots.specs.Resumed.{Continues}
use Rattle.snapshots.specs.Saved.{IsRestored, IsRestoreFault}

-- the frames hold commands whose numbers are below this one
abbrev pub HoldBelow : {A : Type 0} → ℕ → List (Piece (ℕ × A)) → Type 0
HoldBelow number [] = Unit {0}
HoldBelow number (FrameOf command _ ∷ pieces) = (command.0 < number) × HoldBelow number pieces
HoldBelow number (Damage _ ∷ pieces) = ⊥

-- they hold commands that are numbered in a row, from this number on
abbrev pub HoldFrom : {A : Type 0} → ℕ → List (Piece (ℕ × A)) → Type 0
HoldFrom number [] = Unit {0}
HoldFrom number (FrameOf command _ ∷ pieces) = (command.0 ≡ number) × HoldFrom (number + 1) pieces
HoldFrom number (Damage _ ∷ pieces) = ⊥

-- the commands of these frames, without their numbers
abbrev pub held_by : {A : Type 0} → List (Piece (ℕ × A)) → List A
held_by [] = []
held_by (FrameOf command _ ∷ pieces) = command.1 ∷ held_by pieces
held_by (Damage _ ∷ pieces) = held_by pieces

-- the commands equal those of the frames, in order
abbrev pub EqualThose : {A : Type 0} → (A → A → Bool) → List (Piece (ℕ × A)) → List A → Type 0
EqualThose eq [] [] = Unit {0}
EqualThose eq (FrameOf held _ ∷ pieces) (command ∷ commands) = (eq held.1 command ≡ true) × EqualThose eq pieces commands
EqualThose eq (Damage _ ∷ pieces) (_ ∷ commands) = ⊥
EqualThose eq [] (_ ∷ _) = ⊥
EqualThose eq (_ ∷ _) [] = ⊥

-- of frames that were cut these stand whole, after those that are passed over
abbrev pub StandAfter : {A : Type 0} → List (Piece (ℕ × A)) → List (Piece (ℕ × A)) → List (Piece (ℕ × A)) → Type 0
StandAfter {A} passed standing kept = (kept ≡ passed ++ standing) ⊎ ((standing ≡ []) × (cut : List (Piece (ℕ × A))) × (passed ≡ kept ++ cut))

-- Of a log that was cut to n bytes some frames stand whole. Earlier commands, and then ones equal to those of these frames
-- that are not passed over, lead to the new state.
pub record Resumes {S A : Type 0} (eq : A → A → Bool) (applies : S → A → S → Type 0) (first : S) (earlier : List A) (passed others : List (Piece (ℕ × A))) (n : ℕ) (new : ℕ × S) : Type 0 where
  pub kept : List (Piece (ℕ × A))
  pub lost : List (Piece (ℕ × A))
  pub pieces_are : passed ++ others ≡ kept ++ lost
  pub lacks_room : LacksRoom (n - length (bytes_of_all kept)) lost
  pub standing : List (Piece (ℕ × A))
  pub stand_after : StandAfter passed standing kept
  pub commands : List A
  pub equal : EqualThose eq standing commands
  pub run : Run applies first (earlier ++ commands) new.1
  pub count : new.0 ≡ length (earlier ++ commands)

-- a machine was restored from the snapshot, and the log continues its state
pub record IsComeBack {A M S B : Type 0} (stands_for : A → M → Type 0) (applies : S → B → S → Type 0) (state : M → S) (F : Format Meaning) (decodes_to : Meaning → A → Type 0)
    (G : Format Meaning) (commands_to : Meaning → ℕ × B → Type 0) (limit : Option ℕ) (most : ℕ) (snapshot log : List ℕ) (new : ℕ × S) (replayed : Replayed) : Type 0 where
  pub number : ℕ
  pub machine : M
  pub restored : IsRestored stands_for F limit decodes_to snapshot number machine
  pub continues : Continues applies G limit commands_to most log (number, state machine) new replayed

-- why no machine comes back
abbrev pub IsResumeFault : {A M S B E : Type 0} → (A → M → Type 0) → (S → B → S → Type 0) → (S → B → E → Type 0) → (M → S) → Format Meaning → (Meaning → A → Type 0) →
    Format Meaning → (Meaning → ℕ × B → Type 0) → Option ℕ → ℕ → List ℕ → List ℕ → ResumeError E → Type 0
IsResumeFault stands_for applies refuses state F decodes_to G commands_to limit most snapshot log (failures.Snapshot why) = IsRestoreFault stands_for F limit decodes_to snapshot why
IsResumeFault {A} {M} {S} stands_for applies refuses state F decodes_to G commands_to limit most snapshot log (failures.Log why) =
    (number : ℕ) × (machine : M) × (new : ℕ × S) × IsRestored stands_for F limit decodes_to snapshot number machine
    × IsStop (AppliesNext applies) (RefusesNext refuses) G limit commands_to most log (number, state machine) new why
