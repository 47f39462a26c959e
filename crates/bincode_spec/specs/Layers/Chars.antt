-- What bytes are as a character.
use Rattle.std.specs.Prelude.{◌≡◌, ℕ, List, Option, Ok, Err, MatchOption}
use Rattle.bincode_spec.specs.Fault.{InvalidChar}
use Rattle.bincode_spec.specs.Meaning.{Character}
use Rattle.bincode_spec.specs.Words.{char_of, four_bytes}

-- the bytes encode the character that was found, or they encode none
abbrev pub Spells : List ℕ → Option ℕ → Type 0
Spells bytes found = MatchOption found (char_of bytes ≡ Err (InvalidChar (four_bytes bytes))) (λ c. char_of bytes ≡ Ok (Character c))
