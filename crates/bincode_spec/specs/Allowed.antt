-- The words that a value allows.
use Rattle.std.specs.Prelude.{◌≡◌, ℕ, ◌<◌, ◌≤◌, List, length}
use Rattle.std.specs.List.{All}
use Rattle.bincode_base.specs.declared.error.EncodeError.{EncodeError}
use Rattle.bincode_spec.specs.Charge.{Step}
use Rattle.bincode_spec.specs.Format.{Format}
use Rattle.bincode_spec.specs.Meaning.{Meaning}
use Rattle.bincode_base.specs.declared.error.EncodeError.TheVariants as errors

-- the bytes are written for one of the meanings of a value
pub record AllowedWord (Means : Meaning → Type 0) (F : Format Meaning) (bytes : List ℕ) : Type 0 where
  pub meaning : Meaning
  pub is_meant : Means meaning
  pub is_written : F.Written bytes meaning

-- an error that a type may have, and no writer has
abbrev pub MayName : EncodeError → Type 0
MayName (errors.RefCellAlreadyBorrowed _) = Unit {0}
MayName (errors.LockFailed _) = Unit {0}
MayName (errors.Other _) = Unit {0}
MayName (errors.OtherString _) = Unit {0}
MayName _ = ⊥

-- both formats write the same words for each meaning
abbrev pub WrittenAlike : Format Meaning → Format Meaning → Type 0
WrittenAlike F G =
    ((bytes : List ℕ) (meaning : Meaning) → F.Written bytes meaning → G.Written bytes meaning) × ((bytes : List ℕ) (meaning : Meaning) → G.Written bytes meaning → F.Written bytes meaning)

-- all of these words have one length
abbrev pub OneLength : (List ℕ → Type 0) → Type 0
OneLength Allowed = (x y : List ℕ) → Allowed x → Allowed y → length x ≡ length y

-- some bytes that are allowed
pub record SomeWord (Allowed : List ℕ → Type 0) : Type 0 where
  pub bytes : List ℕ
  pub are_bytes : All (λ b. b < 256) bytes
  pub is_allowed : Allowed bytes

-- no word that is read for a meaning in `Read` is shorter than one that is written for a meaning in `Written`
abbrev pub NoneShorter : (Written Read : Meaning → Type 0) → Format Meaning → Type 0
NoneShorter Written Read F =
    (written bytes : List ℕ) (meaning : Meaning) (steps : List Step) → AllowedWord Written F written → All
    (λ b. b < 256) bytes → F.Word bytes meaning steps → Read meaning → length written ≤ length bytes

-- no word that decodes to what an allowed word decodes to is shorter than that one
abbrev pub IsShortest : (Means DecodesTo : Meaning → Type 0) → Format Meaning → Type 0
IsShortest Means DecodesTo F = NoneShorter (λ m. Means m × DecodesTo m) DecodesTo F

-- a value without cells: it has a word, all its words have one length, and none that decodes to it is shorter
pub record HasShortestWords (Means : Meaning → Type 0) (F : Format Meaning) : Type 0 where
  pub has_word : SomeWord (AllowedWord Means F)
  pub one_length : OneLength (AllowedWord Means F)
  pub none_shorter : NoneShorter Means Means F
