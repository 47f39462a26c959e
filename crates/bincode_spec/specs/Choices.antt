-- Choices: one of several kinds, by its tag and its part.
use Rattle.std.specs.Prelude.{◌≡◌, ℕ}
use Rattle.bincode_spec.specs.Meaning.{Meaning, Choice}

-- the meaning is a choice with this tag and such a part
pub record IsChoice (tag : ℕ) (Part : Meaning → Type 0) (m : Meaning) : Type 0 where
  pub part : Meaning
  pub meaning_is : m ≡ Choice tag part
  pub is_part : Part part
