-- What a reader with a window knows of its stream.
use Rattle.std.specs.Prelude.{◌≤◌, ℕ, List, take, Option, Some, None, IfSome}
use Rattle.std.specs.Io.{StartsWith}

-- the bytes of a stream are known, and they begin with the first n of a window, which may be consumed
abbrev pub ShowsNext : Option (List ℕ) → Option ℕ → ℕ → List ℕ → Type 0
ShowsNext None most n window = ⊥
ShowsNext (Some xs) most n window = StartsWith xs (take n window) × IfSome most (λ k. n ≤ k)
