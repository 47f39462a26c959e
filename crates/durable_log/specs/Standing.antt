-- The commands that a log stands for, whatever a crash made of it.
use Rattle.std.specs.Prelude.{◌≡◌, ◌⊎◌, ◌-◌, ◌<◌, ◌≤◌, ◌++◌, ℕ, List, [], ◌∷◌, length, Option}
use Rattle.std.specs.List.{All}
use Rattle.bincode_base.specs.Setting.{Setting}
use Rattle.bincode_types.specs.TypeWords.{Words}
use Rattle.framed_store.specs.Pieces.{Piece, FrameOf, Damage, ArePieces, bytes_of_all, LacksRoom}
use Rattle.framed_store.specs.PieceLaws.{with_kept}
use Rattle.crash_device.specs.Files.{Files}

-- none of the frames was changed
abbrev pub AreKept : {A : Type 0} → List (Piece A) → Type 0
AreKept [] = Unit {0}
AreKept (FrameOf _ _ ∷ pieces) = AreKept pieces
AreKept (Damage _ ∷ pieces) = ⊥

-- the log is the frames of these commands
pub record IsLogOf {A : Type 0} (W : Words A) (s : Setting) (limit : Option ℕ) (most : ℕ) (pieces : List (Piece A)) (log : List ℕ) : Type 0 where
  pub are_pieces : ArePieces W s limit most pieces
  pub are_kept : AreKept pieces
  pub bytes_are : bytes_of_all pieces ≡ log
  pub are_bytes : All (λ b. b < 256) log

-- the frames of these commands stand whole in the log, and after them at most a part of the next
pub record StandsFor {A : Type 0} (W : Words A) (s : Setting) (limit : Option ℕ) (most : ℕ) (pieces : List (Piece A)) (log : List ℕ) : Type 0 where
  pub next : List (Piece A)
  pub lost : List ℕ
  pub are_pieces : ArePieces W s limit most (pieces ++ next)
  pub are_kept : AreKept pieces
  pub bytes_are : bytes_of_all (pieces ++ next) ≡ log ++ lost
  pub stand_whole : length (bytes_of_all pieces) ≤ length log
  pub lacks_room : LacksRoom (length log - length (bytes_of_all pieces)) next
  pub are_bytes : All (λ b. b < 256) log

-- the log is that of these commands and of one more
abbrev pub IsAfter : {A : Type 0} → Words A → Setting → Option ℕ → ℕ → List (Piece A) → A → List ℕ → Type 0
IsAfter W s limit most pieces value log = (word : List ℕ) × IsLogOf W s limit most (with_kept pieces value word) log

-- the log stands for these commands, or for these and one more; the snapshot is as it was
abbrev pub IsBeforeOrAfter : {A : Type 0} → Words A → Setting → Option ℕ → ℕ → List (Piece A) → A → Files → Files → Type 0
IsBeforeOrAfter W s limit most pieces value old new =
    (new.snapshot ≡ old.snapshot) × (StandsFor W s limit most pieces new.log ⊎ ((word : List ℕ) × StandsFor W s limit most (with_kept pieces value word) new.log))
