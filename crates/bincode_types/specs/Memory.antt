-- Whether decoding allocates.
use Rattle.std.specs.Prelude.{Bool, true, false}

-- a flag as a proposition
abbrev pub Allocates : Bool → Type 0
Allocates true = Unit {0}
Allocates false = ⊥
