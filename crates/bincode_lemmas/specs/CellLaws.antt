-- Cells are lawful; the words that they allow.
use Rattle.std.specs.Prelude.{ℕ, ◌<◌, List}
use Rattle.std.specs.List.{All}
use Rattle.bincode_base.specs.declared.error.EncodeError.{EncodeError}
use Rattle.bincode_spec.specs.Charge.{Step}
use Rattle.bincode_spec.specs.Format.{Format, AnyWord, of_cell, written_as}
use Rattle.bincode_spec.specs.Layers.Laws.{IsLawful, IsBalanced}
use Rattle.bincode_lemmas.specs.FormatLaws.{rewritten-lawful}
use Rattle.bincode_lemmas.specs.Balance.{rewritten-holds}
use Rattle.bincode_spec.specs.Meaning.{Meaning}
use Rattle.bincode_spec.specs.Allowed.{AllowedWord, SomeWord, MayName}
use Rattle.bincode_spec.specs.Cells.{IsAny, IsBorrowed, HasWord}

-- a cell keeps the laws that the format of what it holds does
pub cell-lawful : (F : Format Meaning) → IsLawful F → IsLawful (of_cell F)
cell-lawful F f = rewritten-lawful (AnyWord F) F f (λ word m w. (w.steps, w.is_word))

pub cell-balanced : (F : Format Meaning) → IsBalanced F → IsBalanced (of_cell F)
cell-balanced F f = rewritten-holds 0 0 (AnyWord F) F f

-- it allows what a value that it may hold does
pub cell-allows : (F : Format Meaning) → IsLawful F → (P : Meaning → Type 0) (bytes : List ℕ) → AllowedWord P F bytes → AllowedWord IsAny (of_cell F) bytes
unfolding written_as
cell-allows F f P bytes w =
    let p = f.written_is_word bytes w.meaning w.is_written in
    record { meaning = w.meaning; is_meant = tt; is_written = record { steps = p.0; is_word = p.1 } }

pub cell-has_word : (F : Format Meaning) → IsLawful F → (P : Meaning → Type 0) → SomeWord (AllowedWord P F) → HasWord F
cell-has_word F f P w = record { bytes = w.bytes; are_bytes = w.are_bytes; is_allowed = cell-allows F f P w.bytes w.is_allowed }

-- any word is one of a cell
pub word-held : (F : Format Meaning) (bytes : List ℕ) (m : Meaning) (steps : List Step) → All (λ b. b < 256) bytes → F.Word bytes m steps → HasWord F
unfolding written_as
word-held F bytes m steps h w = record { bytes = bytes; are_bytes = h; is_allowed = record { meaning = m; is_meant = tt; is_written = record { steps = steps; is_word = w } } }

pub held-word : (F : Format Meaning) (x : HasWord F) → (m : Meaning) × (steps : List Step) × F.Word x.bytes m steps
unfolding written_as
held-word F x = let w = x.is_allowed in (w.meaning, w.is_written.steps, w.is_written.is_word)

-- a cell of cells has a word too
pub cell-some_word : (F : Format Meaning) → HasWord F → HasWord (of_cell F)
unfolding written_as
cell-some_word F x = let w = held-word F x in word-held (of_cell F) x.bytes w.0 w.1 x.are_bytes w.2

-- that a cell is borrowed is an error that a type may name
pub borrowed-named : (e : EncodeError) → IsBorrowed e → MayName e
borrowed-named e h = rw h.1 tt
