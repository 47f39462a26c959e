-- The error of a value that does not fit a shape.
use Rattle.std.specs.Prelude.{◌≡◌, codes}
use Rattle.bincode_base.specs.ShortText.{text_bytes}
use Rattle.bincode_base.specs.declared.short_text.Text.{Text}
use Rattle.bincode_base.specs.declared.error.EncodeError.{EncodeError}
use Rattle.bincode_base.specs.declared.error.EncodeError.TheVariants as errors

-- `Other` with the text that says so
abbrev pub IsUnfit : EncodeError → Type 0
IsUnfit e = (text : Text 22) × (e ≡ errors.Other text) × (text_bytes text ≡ codes "value does not fit the shape")
