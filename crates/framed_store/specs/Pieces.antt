-- What is told of frames that were appended in turn, some of which were damaged since.
use Rattle.std.specs.Prelude.{◌≡◌, ◌≢◌, ◌+◌, ◌-◌, ◌<◌, ◌≤◌, ◌++◌, ℕ, List, [], ◌∷◌, length, Option, Bool, true}
use Rattle.bincode_base.specs.Setting.{Setting}
use Rattle.bincode_types.specs.TypeWords.{Words}
use Rattle.frames.specs.Frames.{frame}
use Rattle.framed_store.specs.declared.ending.Ending.{Ending}
use Rattle.framed_store.specs.declared.ending.Ending.TheVariants as endings
use Rattle.framed_store.specs.declared.listing.Record.{Record}
use Rattle.framed_store.specs.declared.records.Content.{Content}
use Rattle.framed_store.specs.declared.records.Content.TheVariants.{Value, Damaged, Undecodable, Longer}
use Rattle.framed_store.specs.Appended.{IsFitting}
use Rattle.framed_store.specs.Steps.{IsDamaged}

-- the frame of a value that was appended, with the value's word; or the bytes that a frame was changed to
pub data Piece (A : Type 0) : Type 0 where
  FrameOf : A → List ℕ → Piece A
  Damage : List ℕ → Piece A

abbrev pub bytes_of : {A : Type 0} → Piece A → List ℕ
bytes_of (FrameOf value word) = frame word
bytes_of (Damage bytes) = bytes

-- one after another
abbrev pub bytes_of_all : {A : Type 0} → List (Piece A) → List ℕ
bytes_of_all [] = []
bytes_of_all (p ∷ pieces) = bytes_of p ++ bytes_of_all pieces

-- the word is one of the value that the store takes; what was changed still names its length, and its check is wrong
abbrev pub IsPiece : {A : Type 0} → Words A → Setting → Option ℕ → ℕ → Piece A → Type 0
IsPiece W s limit most (FrameOf value word) = IsFitting W s limit most value word
IsPiece W s limit most (Damage bytes) = IsDamaged most bytes (length bytes)

abbrev pub ArePieces : {A : Type 0} → Words A → Setting → Option ℕ → ℕ → List (Piece A) → Type 0
ArePieces W s limit most [] = Unit {0}
ArePieces W s limit most (p ∷ pieces) = IsPiece W s limit most p × ArePieces W s limit most pieces

-- a prefix of a frame that the store takes, neither empty nor whole
pub record IsTorn (most : ℕ) (front : List ℕ) : Type 0 where
  pub word : List ℕ
  pub back : List ℕ
  pub frame_is : frame word ≡ front ++ back
  pub is_short : length word ≤ most
  pub some_written : front ≢ []
  pub some_missing : 0 < length back

-- the frame of a value is told as an equal value, and a changed one as damaged
abbrev pub IsToldAs : {A : Type 0} → (A → A → Bool) → Piece A → Content A → Type 0
IsToldAs eq (FrameOf value _) (Value other) = eq value other ≡ true
IsToldAs eq (FrameOf _ _) Damaged = ⊥
IsToldAs eq (FrameOf _ _) (Undecodable _) = ⊥
IsToldAs eq (FrameOf _ _) (Longer _) = ⊥
IsToldAs eq (Damage _) content = content ≡ Damaged

-- each piece is told from an offset on, at the end of the one before, with the number of its bytes
abbrev pub ToldFor : {A : Type 0} → (A → A → Bool) → ℕ → List (Piece A) → List (Record A) → Type 0
ToldFor eq at [] [] = Unit {0}
ToldFor eq at (p ∷ pieces) (r ∷ records) = IsToldAs eq p r.content × (r.offset ≡ at) × (r.size ≡ length (bytes_of p)) × ToldFor eq (at + length (bytes_of p)) pieces records
ToldFor eq at [] (_ ∷ _) = ⊥
ToldFor eq at (_ ∷ _) [] = ⊥

-- the first records are those of the pieces
pub record TellsFirst {A : Type 0} (eq : A → A → Bool) (pieces : List (Piece A)) (records : List (Record A)) : Type 0 where
  pub first : List (Record A)
  pub others : List (Record A)
  pub records_are : records ≡ first ++ others
  pub for_pieces : ToldFor eq 0 pieces first

-- these are all, and the store is whole
abbrev pub TellsAll : {A : Type 0} → (A → A → Bool) → List (Piece A) → List (Record A) → Ending → Type 0
TellsAll eq pieces records ending = ToldFor eq 0 pieces records × (ending ≡ endings.Whole)

-- these are all, and the store ends within a frame after them
abbrev pub TellsBeforeTorn : {A : Type 0} → (A → A → Bool) → List (Piece A) → List (Record A) → Ending → Type 0
TellsBeforeTorn eq pieces records ending = ToldFor eq 0 pieces records × (ending ≡ endings.Torn (length (bytes_of_all pieces)))

-- of what is left of a store not even the first of these has room
abbrev pub LacksRoom : {A : Type 0} → ℕ → List (Piece A) → Type 0
LacksRoom room [] = Unit {0}
LacksRoom room (p ∷ pieces) = room < length (bytes_of p)

-- a store of n bytes ends after this frame, or within the next
abbrev pub EndsAfter : ℕ → ℕ → Ending → Type 0
EndsAfter at n endings.Whole = n ≡ at
EndsAfter at n (endings.Torn offset) = (offset ≡ at) × (at < n)
EndsAfter at n (endings.TooLong _ _) = ⊥

-- of pieces that were cut to n bytes those are told that stand whole
pub record TellsFront {A : Type 0} (eq : A → A → Bool) (pieces : List (Piece A)) (n : ℕ) (records : List (Record A)) (ending : Ending) : Type 0 where
  pub kept : List (Piece A)
  pub lost : List (Piece A)
  pub pieces_are : pieces ≡ kept ++ lost
  pub for_kept : ToldFor eq 0 kept records
  pub lacks_room : LacksRoom (n - length (bytes_of_all kept)) lost
  pub ends : EndsAfter (length (bytes_of_all kept)) n ending
