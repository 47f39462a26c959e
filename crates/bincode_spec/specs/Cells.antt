-- Cells: no contract says what one holds.
use Rattle.std.specs.Prelude.{◌≡◌}
use Rattle.bincode_base.specs.declared.short_text.Text.{Text}
use Rattle.bincode_base.specs.declared.error.EncodeError.{EncodeError}
use Rattle.bincode_base.specs.declared.error.EncodeError.TheVariants.{RefCellAlreadyBorrowed}
use Rattle.bincode_spec.specs.Format.{Format, of_cell}
use Rattle.bincode_spec.specs.Meaning.{Meaning}
use Rattle.bincode_spec.specs.Allowed.{AllowedWord, SomeWord}

-- it may be anything
abbrev pub IsAny : Meaning → Type 0
IsAny m = Unit {0}

-- the error of a cell that is mutably borrowed
abbrev pub IsBorrowed : EncodeError → Type 0
IsBorrowed e = (name : Text 22) × (e ≡ RefCellAlreadyBorrowed name)

-- a cell of this format has some word
abbrev pub HasWord : Format Meaning → Type 0
HasWord F = SomeWord (AllowedWord IsAny (of_cell F))

-- what a cell may hold has a word, and can be written
pub record IsHeld {A : Type 0} (F : Format Meaning) (Valid Writable : A → Type 0) : Type 0 where
  pub some_word : HasWord F
  pub each_writable : (held : A) → Valid held → Writable held
