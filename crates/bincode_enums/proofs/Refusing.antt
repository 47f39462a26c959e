-- Decoding a tag that no variant has.
use Rattle.std.specs.Prelude.{◌≡◌, ℕ, List, [], ◌∷◌, refl}
use Rattle.bincode_base.specs.Setting.{Setting}
use Rattle.bincode_spec.specs.Fault.{Allowed, UnexpectedVariant}
use Rattle.bincode_spec.specs.Format.{fail}
use Rattle.bincode_spec.specs.Words.{Variant, part, variant_tags}
use Rattle.bincode_enums.specs.EnumWords.{IsNone}

-- a tag that no variant has is refused
pub none-picked : (s : Setting) (allowed : Allowed) (found : ℕ) (variants : List Variant) → IsNone found (variant_tags variants) → part s variants allowed found ≡ fail (UnexpectedVariant allowed found)
none-picked s allowed found [] h = refl
none-picked s allowed found (v ∷ variants) h = rw h.0 (none-picked s allowed found variants h.1)
