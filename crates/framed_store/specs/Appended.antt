-- What is appended to a store of frames.
use Rattle.std.specs.Prelude.{◌≡◌, ◌≤◌, ◌++◌, ℕ, List, length, Option}
use Rattle.std.specs.Io.KnownBytes.{Appends}
use Rattle.bincode_base.specs.Setting.{Setting}
use Rattle.bincode_base.specs.declared.error.DecodeError.TheVariants as decoding
use Rattle.bincode_base.specs.declared.error.EncodeError.TheVariants as encoding
use Rattle.bincode_spec.specs.Allowed.{AllowedWord}
use Rattle.bincode_spec.specs.Limits.{FitsLimit}
use Rattle.bincode_io.specs.Stream.{IsWriteIo}
use Rattle.bincode_types.specs.TypeWords.{Words}
use Rattle.frames.specs.Frames.{frame}
use Rattle.framed_store.specs.declared.appending.AppendError.{AppendError}
use Rattle.framed_store.specs.declared.appending.AppendError.TheVariants as failures

-- a word that is written for the value, and whose steps stay within the limit
pub record IsEntry {A : Type 0} (W : Words A) (s : Setting) (limit : Option ℕ) (value : A) (word : List ℕ) : Type 0 where
  pub is_valid : W.valid value
  pub is_written : AllowedWord (W.means value) (W.format s) word
  pub is_within : FitsLimit (W.format s) limit word

-- a word of the value within the limit, of at most as many bytes as the store takes
pub record IsFitting {A : Type 0} (W : Words A) (s : Setting) (limit : Option ℕ) (most : ℕ) (value : A) (word : List ℕ) : Type 0 where
  pub is_entry : IsEntry W s limit value word
  pub is_short : length word ≤ most

-- the bytes, if they are known, grew by the frame of such a word, which has n bytes
pub record Added {A : Type 0} (W : Words A) (s : Setting) (limit : Option ℕ) (most : ℕ) (value : A) (n : ℕ) (old new : Option (List ℕ)) : Type 0 where
  pub word : List ℕ
  pub is_fitting : IsFitting W s limit most value word
  pub count : n ≡ length (frame word)
  pub appended : Appends old new (frame word)

-- they grew by a prefix of such a frame
pub record FrontAdded {A : Type 0} (W : Words A) (s : Setting) (limit : Option ℕ) (most : ℕ) (value : A) (old new : Option (List ℕ)) : Type 0 where
  pub word : List ℕ
  pub front : List ℕ
  pub back : List ℕ
  pub is_fitting : IsFitting W s limit most value word
  pub frame_is : frame word ≡ front ++ back
  pub appended : Appends old new front

-- each word of the value stays within the limit, and the store takes it
abbrev pub FitsStore : {A : Type 0} → Words A → Setting → Option ℕ → ℕ → A → Type 0
FitsStore W s limit most value = (word : List ℕ) → AllowedWord (W.means value) (W.format s) word → FitsLimit (W.format s) limit word × (length word ≤ most)

-- the error is one of memory or of the stream: any such error
abbrev pub IsOutside : AppendError → Type 0
IsOutside (failures.Encode e) = e ≡ encoding.Memory
IsOutside (failures.ReadBack e) = e ≡ decoding.Memory
IsOutside (failures.TooLong _ _) = ⊥
IsOutside (failures.Memory _) = Unit {0}
IsOutside (failures.Write e) = (written : ℕ) × IsWriteIo written e

-- the stream failed
abbrev pub IsStreamFailure : AppendError → Type 0
IsStreamFailure (failures.Write e) = (written : ℕ) × IsWriteIo written e
IsStreamFailure _ = ⊥

-- an error that comes before anything is written
abbrev pub WritesNothing : AppendError → Type 0
WritesNothing (failures.Encode _) = Unit {0}
WritesNothing (failures.ReadBack _) = Unit {0}
WritesNothing (failures.TooLong _ _) = Unit {0}
WritesNothing (failures.Memory _) = Unit {0}
WritesNothing (failures.Write _) = ⊥

-- the store after each error
abbrev pub Leaves : {A S : Type 0} → Words A → Setting → Option ℕ → ℕ → A → (S → Option (List ℕ)) → S → S → AppendError → Type 0
Leaves W s limit most value contents old new (failures.Encode _) = new ≡ old
Leaves W s limit most value contents old new (failures.ReadBack _) = new ≡ old
Leaves W s limit most value contents old new (failures.TooLong _ _) = new ≡ old
Leaves W s limit most value contents old new (failures.Memory _) = new ≡ old
Leaves W s limit most value contents old new (failures.Write _) = FrontAdded W s limit most value (contents old) (contents new)
