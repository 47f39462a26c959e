-- Tests of one kind of meaning, which every other meaning fails.
use Rattle.std.specs.Prelude.{ℕ, pos, Bool, false, List}
use Rattle.bincode_spec.specs.Meaning.{Meaning, Number, Bytes}

-- a test of an unsigned number; every other meaning fails
abbrev pub number_passes : (ℕ → Bool) → Meaning → Bool
number_passes test (Number (pos n)) = test n
number_passes test _ = false

-- a test of the bytes of a text; every other meaning fails
abbrev pub text_passes : (List ℕ → Bool) → Meaning → Bool
text_passes test (Bytes bytes) = test bytes
text_passes test _ = false
