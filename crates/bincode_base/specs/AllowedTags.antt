-- The valid tags of an enum, and the errors that hold them.
use Rattle.std.specs.Prelude.{◌≡◌, ◌⊎◌, ℕ, List, Option, Some, None, Box}
use Rattle.std.specs.Borrow.{Bor}
use Rattle.std.specs.declared.vec.Vec.{Vec}
use Rattle.std.specs.declared.alloc.Global.{Global}
use Rattle.bincode_base.specs.declared.short_text.Text.{Text}
use Rattle.bincode_base.specs.declared.error.AllowedEnumVariants.{AllowedEnumVariants}
use Rattle.bincode_base.specs.declared.error.AllowedEnumVariants.TheVariants.{Range, Allowed}
use Rattle.bincode_base.specs.declared.error.DecodeError.{DecodeError}
use Rattle.bincode_base.specs.declared.error.DecodeError.TheVariants as errors

-- the valid tags that an error holds: a range, or a list; other errors hold none
abbrev pub TellsAllowed : DecodeError → Option AllowedEnumVariants → Type 0
TellsAllowed (errors.UnexpectedVariant _ _ min max) allowed = allowed ≡ Some (Range min max)
TellsAllowed (errors.UnlistedVariant _ _ listed) allowed = (tags : Bor (List ℕ)) × (allowed ≡ Some (Allowed tags)) × (tags.now ≡ listed.value.items)
TellsAllowed _ allowed = allowed ≡ None

-- the error of an unknown tag: with a range, or with a copy of a list, unless that allocation is refused
abbrev pub IsUnexpected : Text 10 → ℕ → AllowedEnumVariants → DecodeError → Type 0
IsUnexpected name found (Range min max) e = e ≡ errors.UnexpectedVariant name found min max
IsUnexpected name found (Allowed tags) e = (e ≡ errors.Memory) ⊎ ((listed : Box (Vec ℕ Global) Global) × (e ≡ errors.UnlistedVariant name found listed) × (listed.value.items ≡ tags.now))
