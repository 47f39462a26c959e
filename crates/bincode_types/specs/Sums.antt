-- The variants of an enum.
use Rattle.std.specs.Prelude.{ℕ}
use Rattle.bincode_types.specs.declared.sums.VariantOf.{VariantOf}
use Rattle.bincode_types.specs.declared.sums.VariantOf.TheVariants as variants

-- the first variant, with its part
abbrev pub this : {tag : ℕ} {A Others : Type 0} → A → VariantOf tag A Others
this a = variants.This a

-- one of the others
abbrev pub other : {tag : ℕ} {A Others : Type 0} → Others → VariantOf tag A Others
other others = variants.Other others
