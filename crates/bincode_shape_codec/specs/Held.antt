-- What was read of an option, and of a choice.
use Rattle.std.specs.Prelude.{◌≡◌, ℕ, true, List, Box, Option, Some, None}
use Rattle.std.specs.declared.alloc.Global.{Global}
use Rattle.bincode_spec.specs.Meaning.{Meaning, Nothing, Choice}
use Rattle.bincode_shape.specs.declared.shape.Shape.{Shape}
use Rattle.bincode_shape.specs.declared.shape.Value.{Value}
use Rattle.bincode_shape.specs.Shapes.{fits, picked_passes, meaning}
use Rattle.bincode_shape.specs.Rows.{tests}

-- nothing, or the image of a part
abbrev pub IsOptional : Shape → Meaning → Option (Box Value Global) → Type 0
IsOptional part m None = m ≡ Choice 0 Nothing
IsOptional part m (Some held) = (fits part held.value ≡ true) × (m ≡ Choice 1 (meaning held.value))

-- the image of the part that a tag selects
abbrev pub IsChosen : List Shape → Meaning → ℕ × Box Value Global → Type 0
IsChosen parts m v = (picked_passes (tests parts) v.0 v.1.value ≡ true) × (m ≡ Choice v.0 (meaning v.1.value))
