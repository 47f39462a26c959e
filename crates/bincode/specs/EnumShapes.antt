-- The shapes of an enum's variants, in order.
use Rattle.std.specs.Prelude.{◌≡◌, ◌+◌, ℕ, zero, suc, List, [], ◌∷◌, length}
use Rattle.bincode_base.specs.Setting.{Setting}
use Rattle.bincode_spec.specs.Format.{Format}
use Rattle.bincode_spec.specs.Meaning.{Meaning}
use Rattle.bincode_spec.specs.Words.{Variant}
use Rattle.bincode_shape.specs.declared.shape.Shape.{Shape}
use Rattle.bincode_shape.specs.Rows.{formats}
use Rattle.bincode_shape.specs.Same.{SameWords}

-- the variant at this index has this tag, and its part these words
abbrev pub IsVariant : ℕ → List Variant → ℕ → (Setting → Format Meaning) → Type 0
IsVariant place [] n F = ⊥
IsVariant zero (w ∷ ws) n F = (n ≡ w.0) × ((s : Setting) → SameWords (F s) (w.1 s))
IsVariant (suc place) (w ∷ ws) n F = IsVariant place ws n F

-- numbered in order from `n`, these are the first variants
abbrev pub SameFirst : Setting → ℕ → List (Setting → Format Meaning) → List Variant → Type 0
SameFirst s n [] ws = Unit {0}
SameFirst s n (F ∷ Fs) [] = ⊥
SameFirst s n (F ∷ Fs) (w ∷ ws) = (n ≡ w.0) × SameWords (F s) (w.1 s) × SameFirst s (n + 1) Fs ws

-- there are `n` shapes, and numbered from 0 they have the words of the first variants
abbrev pub DescribesFirst : ℕ → List Shape → List Variant → Type 0
DescribesFirst n shapes variants = (length shapes ≡ n) × ((s : Setting) → SameFirst s 0 (formats shapes) variants)
