-- The state that comes back from commands that were appended, wherever their log was cut.
use Rattle.std.specs.Prelude.{◌≡◌, ◌-◌, ◌++◌, ℕ, List, [], ◌∷◌, length, Bool, true}
use Rattle.framed_store.specs.Pieces.{Piece, FrameOf, Damage, bytes_of_all, LacksRoom}
use Rattle.replay.specs.Replays.{Run}
use Rattle.replay.specs.declared.replay.Replayed.{Replayed}

-- the commands equal those of the frames, in order, and no frame was changed
abbrev pub EqualTo : {A : Type 0} → (A → A → Bool) → List (Piece A) → List A → Type 0
EqualTo eq [] [] = Unit {0}
EqualTo eq (FrameOf value _ ∷ pieces) (command ∷ commands) = (eq value command ≡ true) × EqualTo eq pieces commands
EqualTo eq (Damage _ ∷ pieces) (_ ∷ commands) = ⊥
EqualTo eq [] (_ ∷ _) = ⊥
EqualTo eq (_ ∷ _) [] = ⊥

-- of frames that were cut to n bytes those that stand whole are replayed: equal commands lead to the new state
pub record Recovers {S A : Type 0} (eq : A → A → Bool) (applies : S → A → S → Type 0) (pieces : List (Piece A)) (n : ℕ) (old new : S) (replayed : Replayed) : Type 0 where
  pub kept : List (Piece A)
  pub lost : List (Piece A)
  pub commands : List A
  pub pieces_are : pieces ≡ kept ++ lost
  pub lacks_room : LacksRoom (n - length (bytes_of_all kept)) lost
  pub equal : EqualTo eq kept commands
  pub run : Run applies old commands new
  pub count : replayed.commands ≡ length kept
  pub end : replayed.length ≡ length (bytes_of_all kept)
