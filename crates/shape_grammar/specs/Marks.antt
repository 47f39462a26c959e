-- What comes next in a text: the text before it, and the text after it.
use Rattle.std.specs.Prelude.{◌≡◌, ℕ, List, [], ◌∷◌, ◌++◌}
use Rattle.std.specs.Str.{trim_start}

-- after white space comes this mark
abbrev pub Mark : ℕ → List ℕ → List ℕ → Type 0
Mark mark before after = trim_start before ≡ mark ∷ after

-- after white space come these letters
abbrev pub Word : List ℕ → List ℕ → List ℕ → Type 0
Word word before after = trim_start before ≡ word ++ after

-- nothing comes but white space
abbrev pub IsEnd : List ℕ → Type 0
IsEnd before = trim_start before ≡ []
