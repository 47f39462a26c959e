-- What the words of collections and enums are said by.
use Rattle.std.specs.Prelude.{ℕ, List, length, pos}
use Rattle.bincode_spec.specs.Meaning.{Meaning, IsNumber}
use Rattle.bincode_spec.specs.Allowed.{AllowedWord}
use Rattle.bincode_base.specs.Setting.{Setting}
use Rattle.bincode_spec.specs.Words.{natural_number, len}

-- both predicates hold of the same meanings
abbrev pub SameMeanings : (Meaning → Type 0) → (Meaning → Type 0) → Type 0
SameMeanings P Q = ((meaning : Meaning) → P meaning → Q meaning) × ((meaning : Meaning) → Q meaning → P meaning)

-- the words of a length
abbrev pub LengthWord : Setting → ℕ → List ℕ → Type 0
LengthWord s n = AllowedWord (IsNumber (pos n)) (natural_number (len s))
