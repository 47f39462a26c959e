-- The formats of shapes, from those of their parts.
use Rattle.std.specs.Prelude.{◌≡◌, ◌==◌, ◌<◌, ◌≤◌, ◌+◌, ◌++◌, true, ℕ, List, [], ◌∷◌, length, Box, refl}
use Rattle.std.specs.declared.alloc.Global.{Global}
use Rattle.std.specs.declared.vec.Vec.{Vec}
use Rattle.std.proofs.Common.{◌∙◌, ap, sym, arith, append_assoc, append-nil}
use Rattle.std.proofs.lemmas.Bool.{eqb-true}
use Rattle.bincode_base.specs.Setting.{Setting}
use Rattle.bincode_spec.specs.Format.{Format}
use Rattle.bincode_spec.specs.Meaning.{Meaning}
use Rattle.bincode_spec.specs.Words.{nothing, first_and, tuple, list, array, Variant, variant_tags, in_order, tag_then_part, tag}
use Rattle.bincode_lemmas.specs.EqualLaws.{both-show}
use Rattle.bincode_shape.specs.declared.shape.Shape as shapes
use Rattle.bincode_shape.specs.declared.shape.Shape.{Shape}
use Rattle.bincode_shape.specs.Shapes.{format_of, at, share, byte_tag, one_of, numbered_variants}
use Rattle.bincode_shape.specs.Rows.{formats, formats_of-vec}
use Rattle.bincode_shape.specs.Same.{SameWords, same-itself, list-same, array-same, first_and-same}
use Rattle.bincode_shape.specs.SameChoices.{SameVariants, chosen-same}
use Rattle.bincode_types.specs.TypeWords.{Words}
use Rattle.bincode_shape.specs.Describing.{Describes, DescribesRow, DescribesVariants}

share-claims : (claim : ℕ) → 1 ≤ claim → share claim ≡ claim
share-claims claim h = omega (arith, h)

pub same_itself : (F : Format Meaning) → SameWords F F
same_itself = same-itself

-- a list of a type
pub seq_described : (claim : ℕ) (b : Box Shape Global) (F : Setting → Format Meaning) (s : Setting) → 1 ≤ claim → SameWords (format_of b.value s) (F s) →
    SameWords (format_of (shapes.Seq claim b) s) (list s claim (F s))
seq_described claim b F s h f = rw (share-claims claim h) (list-same s claim f)

-- an array
pub array_described : (len claim : ℕ) (b : Box Shape Global) (F : Setting → Format Meaning) (s : Setting) → 1 ≤ claim → SameWords (format_of b.value s) (F s) →
    SameWords (format_of (shapes.Array len claim b) s) (array len claim (F s))
array_described len claim b F s h f = rw (share-claims claim h) (array-same len claim f)

-- an option
pub option_described : (b : Box Shape Global) (F : Setting → Format Meaning) (s : Setting) → SameWords (format_of b.value s) (F s) →
    SameWords (format_of (shapes.Optional b) s) (tag_then_part byte_tag ((0, λ s. nothing) ∷ (1, F) ∷ []) s)
option_described b F s f = chosen-same byte_tag s _ _ (refl, same-itself nothing, (refl, f, tt))

-- an enum whose tags count from 0
pub choice_described : (v : Vec Shape Global) (variants : List Variant) (s : Setting) → DescribesVariants [] v.items variants →
    (0 < length variants) × (in_order 0 (variant_tags variants) ≡ true) → SameWords (format_of (shapes.Choice v) s) (tag_then_part tag variants s)
choice_described v variants s d counted = rw (formats_of-vec v, d.1) (chosen-parts d.0 variants counted.0 (d.2 0 s counted.1)) where
  chosen-parts : (parts : List Shape) (variants : List Variant) → 0 < length variants → SameVariants s (numbered_variants 0 (formats parts)) variants →
      SameWords (one_of (numbered_variants 0 (formats parts)) s) (tag_then_part tag variants s)
  chosen-parts parts [] some h = absurd (omega (arith, some))
  chosen-parts [] (w ∷ ws) some h = absurd h
  chosen-parts (p ∷ ps) (w ∷ ws) some h = chosen-same tag s _ _ h

-- the list ends: no variants
pub no_variants_described : (before : List Shape) → DescribesVariants before before []
no_variants_described before = ([], sym (append-nil before), λ n s h. tt)

-- one variant, then the others
pub next_variant_described : (before with_part after : List Shape) (part : Shape) (n : ℕ) (F : Setting → Format Meaning) (others : List Variant) →
    with_part ≡ before ++ part ∷ [] → ((s : Setting) → SameWords (format_of part s) (F s)) → DescribesVariants with_part after others →
    DescribesVariants before after ((n, F) ∷ others)
next_variant_described before with_part after part n F others e f d = (
  part ∷ d.0,
  d.1 ∙ ap (λ z. z ++ d.0) e ∙ append_assoc before (part ∷ []) d.0,
  λ m s h.
      let p = both-show (n == m) _ (λ h. h) h in (sym (eqb-true n m p.0), f s, d.2 (m + 1) s p.1),
)

-- a tuple, through its row
pub tuple_described : {A : Type 0} (v : Vec Shape Global) (W : Words A) → DescribesRow [] v.items W → Describes (shapes.Tuple v) W
tuple_described v W row s = rw (formats_of-vec v, row.1) (row.2 s)

-- the row ends: no parts
pub none_described : {A : Type 0} (before : List Shape) (W : Words A) → ((s : Setting) → SameWords nothing (W.format s)) → DescribesRow before before W
none_described before W h = ([], sym (append-nil before), h)

-- one part, then the others
pub next_described : (before with_part after : List Shape) (part : Shape) (F rest : Setting → Format Meaning) →
    with_part ≡ before ++ part ∷ [] → ((s : Setting) → SameWords (format_of part s) (F s)) →
    ((parts : List Shape) × (after ≡ with_part ++ parts) × ((s : Setting) → SameWords (tuple (at s (formats parts))) (rest s))) →
    (parts : List Shape) × (after ≡ before ++ parts) × ((s : Setting) → SameWords (tuple (at s (formats parts))) (first_and (F s) (rest s)))
next_described before with_part after part F rest e f others =
    (part ∷ others.0, others.1 ∙ ap (λ z. z ++ others.0) e ∙ append_assoc before (part ∷ []) others.0, λ s. first_and-same (f s) (others.2 s))
