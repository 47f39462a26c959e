-- When a shape describes a type.
use Rattle.std.specs.Prelude.{◌≡◌, ℕ, List, ◌++◌, true}
use Rattle.bincode_base.specs.Setting.{Setting}
use Rattle.bincode_spec.specs.Words.{Variant, variant_tags, in_order, tuple}
use Rattle.bincode_shape.specs.declared.shape.Shape.{Shape}
use Rattle.bincode_shape.specs.Rows.{formats}
use Rattle.bincode_shape.specs.Same.{SameWords}
use Rattle.bincode_shape.specs.SameChoices.{SameVariants}
use Rattle.bincode_shape.specs.Shapes.{format_of, at, numbered_variants}
use Rattle.bincode_types.specs.TypeWords.{Words}

-- the shape has the type's words, meanings, steps and faults in each setting
abbrev pub Describes : {A : Type 0} → Shape → Words A → Type 0
Describes shape W = (s : Setting) → SameWords (format_of shape s) (W.format s)

-- the shapes that were appended have, in order, the words of a row
abbrev pub DescribesRow : {A : Type 0} → List Shape → List Shape → Words A → Type 0
DescribesRow before after W = (parts : List Shape) × (after ≡ before ++ parts) × ((s : Setting) → SameWords (tuple (at s (formats parts))) (W.format s))

-- the shapes that were appended have, numbered in order, the words of variants whose tags are consecutive
abbrev pub DescribesVariants : List Shape → List Shape → List Variant → Type 0
DescribesVariants before after variants =
    (parts : List Shape) × (after ≡ before ++ parts)
    × ((n : ℕ) (s : Setting) → in_order n (variant_tags variants) ≡ true → SameVariants s (numbered_variants n (formats parts)) variants)
