-- Encoding into a vector.
use Rattle.std.specs.Prelude.{◌≡◌, ◌⊎◌}
use Rattle.bincode_base.specs.declared.error.EncodeError.{EncodeError}
use Rattle.bincode_base.specs.declared.error.EncodeError.TheVariants.{Memory}

-- the error is `Memory` or the type's own
abbrev pub IsMemoryOrNamed : (EncodeError → Type 0) → EncodeError → Type 0
IsMemoryOrNamed OwnErrors e = (e ≡ Memory) ⊎ OwnErrors e
