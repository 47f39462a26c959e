-- A write into the middle of a list.
use Rattle.std.specs.Prelude.{◌+◌, ℕ, List, ◌++◌, length, take, drop}

-- s with `piece` written over its bytes from n on
abbrev pub put : ℕ → List ℕ → List ℕ → List ℕ
put n piece s = take n s ++ (piece ++ drop (n + length piece) s)
