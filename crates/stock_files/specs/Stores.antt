-- What is said of stores, and what is added to them.
use Rattle.std.specs.Prelude.{◌≡◌, ◌↔◌, ◌++◌, ℕ, List, [], ◌∷◌, length, Option, Bool, IsTrue}
use Rattle.std.specs.Io.KnownBytes.{Appends}
use Rattle.bincode_base.specs.Setting.{Setting}
use Rattle.bincode_spec.specs.Format.{Format}
use Rattle.bincode_spec.specs.Meaning.{Meaning}
use Rattle.bincode_types.specs.TypeWords.{Words}
use Rattle.frames.specs.Frames.{frame}
use Rattle.framed_store.specs.declared.ending.Ending.{Ending}
use Rattle.framed_store.specs.declared.ending.Ending.TheVariants as endings
use Rattle.framed_store.specs.declared.listing.Record.{Record}
use Rattle.framed_store.specs.declared.records.Content.{Content}
use Rattle.framed_store.specs.declared.records.Content.TheVariants.{Value, Damaged, Undecodable, Longer}
use Rattle.framed_store.specs.Appended.{IsFitting}
use Rattle.framed_store.specs.Told.{Lists}

-- a frame holds a value
abbrev pub IsValue : {A : Type 0} → Content A → Type 0
IsValue (Value _) = Unit {0}
IsValue Damaged = ⊥
IsValue (Undecodable _) = ⊥
IsValue (Longer _) = ⊥

abbrev pub AreValues : {A : Type 0} → List (Record A) → Type 0
AreValues [] = Unit {0}
AreValues (r ∷ records) = IsValue r.content × AreValues records

-- a store is called whole exactly if its frames hold a value each and end with its last byte
pub record IsJudged {A : Type 0} (F : Format Meaning) (limit : Option ℕ) (decodes_to : Meaning → A → Type 0) (most : ℕ) (store : List ℕ) (whole : Bool) : Type 0 where
  pub records : List (Record A)
  pub ending : Ending
  pub lists : Lists F limit decodes_to most store records ending
  pub is_whole : IsTrue whole ↔ (AreValues records × (ending ≡ endings.Whole))

-- the frames of values, one after another, that a store takes
abbrev pub AreFrames : {A : Type 0} → Words A → Setting → Option ℕ → ℕ → List A → List ℕ → Type 0
AreFrames W s limit most [] bytes = bytes ≡ []
AreFrames W s limit most (value ∷ values) bytes = (word rest : List ℕ) × IsFitting W s limit most value word × (bytes ≡ frame word ++ rest) × AreFrames W s limit most values rest

-- the bytes, if they are known, grew by the frames of n values
pub record AddsAll {A : Type 0} (W : Words A) (s : Setting) (limit : Option ℕ) (most n : ℕ) (old new : Option (List ℕ)) : Type 0 where
  pub values : List A
  pub bytes : List ℕ
  pub are_frames : AreFrames W s limit most values bytes
  pub count : n ≡ length values
  pub appended : Appends old new bytes

-- they grew by a prefix of such frames
pub record AddsFront {A : Type 0} (W : Words A) (s : Setting) (limit : Option ℕ) (most : ℕ) (old new : Option (List ℕ)) : Type 0 where
  pub values : List A
  pub front : List ℕ
  pub back : List ℕ
  pub are_frames : AreFrames W s limit most values (front ++ back)
  pub appended : Appends old new front
