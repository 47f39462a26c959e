-- How large a limit an input needs, from its parts: those of the word that begins it, or those up to the one that
-- faults.
use Rattle.std.specs.Prelude.{ℕ, List, [], ◌∷◌, Option, Some, None}
use Rattle.bincode_spec.specs.Words.{char_width}

-- the bytes of a character, from its first byte; 0 if there is none, or it begins no character
abbrev pub width_needs : Option ℕ → ℕ
width_needs None = 0
width_needs (Some width) = width

abbrev pub char_needs : List ℕ → ℕ
char_needs [] = 0
char_needs (first ∷ _) = width_needs (char_width first)
