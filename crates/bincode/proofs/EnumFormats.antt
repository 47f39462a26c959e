-- The shapes of an enum's variants, in order.
use Rattle.std.specs.Prelude.{◌≡◌, ◌<◌, ◌+◌, ◌++◌, ℕ, List, [], ◌∷◌, length}
use Rattle.std.specs.declared.alloc.Global.{Global}
use Rattle.std.specs.declared.vec.Vec.{Vec}
use Rattle.std.proofs.Common.{◌∙◌, ap, sym, subst, arith}
use Rattle.std.proofs.lemmas.List.{length-append}
use Rattle.bincode_base.specs.Setting.{Setting}
use Rattle.bincode_spec.specs.Allowed.{WrittenAlike}
use Rattle.bincode_spec.specs.Format.{Format}
use Rattle.bincode_spec.specs.Meaning.{Meaning}
use Rattle.bincode_spec.specs.Words.{Variant, tag_then_part, tag}
use Rattle.bincode_shape.specs.declared.shape.Shape as shapes
use Rattle.bincode_shape.specs.declared.shape.Shape.{Shape}
use Rattle.bincode_shape.specs.Shapes.{format_of, one_of, numbered_variants}
use Rattle.bincode_shape.specs.Rows.{formats, formats_of-vec}
use Rattle.bincode_shape.specs.Same.{SameWords}
use Rattle.bincode_shape.specs.SameChoices.{SameVariants, chosen-same}
use Rattle.bincode.specs.EnumShapes.{IsVariant, SameFirst, DescribesFirst}

-- `SameWords` is transitive
same-then : {F G H : Format Meaning} → SameWords F G → SameWords G H → SameWords F H
same-then f g = record {
  read = f.read ∙ g.read;
  written = (λ bytes m w. g.written.0 bytes m (f.written.0 bytes m w), λ bytes m w. f.written.1 bytes m (g.written.1 bytes m w));
}

-- one more variant after the first ones
behind : (s : Setting) (n : ℕ) (before : List Shape) (ws : List Variant) (part : Shape) (F : Setting → Format Meaning) →
    SameFirst s n (formats before) ws → IsVariant (length before) ws (n + length before) F → SameWords (format_of part s) (F s) →
    SameFirst s n (formats (before ++ part ∷ [])) ws
behind s n [] [] part F h next f = absurd next
behind s n [] (w ∷ ws) part F h next f = (omega (arith, next.0), same-then f (next.1 s), tt)
behind s n (p ∷ ps) [] part F h next f = absurd h
behind s n (p ∷ ps) (w ∷ ws) part F h next f =
    let e : n + length (p ∷ ps) ≡ (n + 1) + length ps = omega arith in
    (h.0, h.1, behind s (n + 1) ps ws part F h.2 (subst (λ k. IsVariant (length ps) ws k F) e next) f)

-- the variant of this number after the first ones
pub next-first : (number : ℕ) (before after : List Shape) (variants : List Variant) (part : Shape) (F : Setting → Format Meaning) →
    DescribesFirst number before variants → IsVariant number variants number F →
    after ≡ before ++ part ∷ [] → ((s : Setting) → SameWords (format_of part s) (F s)) → DescribesFirst (number + 1) after variants
next-first number before after variants part F d next e f =
    let at : 0 + length before ≡ length before = omega arith in
    let placed = subst (λ k. IsVariant k variants k F) (sym d.0) next in (
      ap length e ∙ length-append before (part ∷ []) ∙ ap (λ k. k + 1) d.0,
      λ s. subst (λ z. SameFirst s 0 (formats z) variants) (sym e)
          (behind s 0 before variants part F (d.1 s) (subst (λ k. IsVariant (length before) variants k F) (sym at) placed) (f s)),
    )

-- there are no more variants than shapes
all-same : (s : Setting) (n : ℕ) (parts : List Shape) (ws : List Variant) → length ws ≡ length parts → SameFirst s n (formats parts) ws → SameVariants s (numbered_variants n (formats parts)) ws
all-same s n [] [] e h = tt
all-same s n [] (w ∷ ws) e h = absurd (omega (arith, e))
all-same s n (p ∷ ps) [] e h = absurd h
all-same s n (p ∷ ps) (w ∷ ws) e h = (h.0, h.1, all-same s (n + 1) ps ws (omega (arith, e)) h.2)

-- the shapes of all variants
pub all-first : (number : ℕ) (v : Vec Shape Global) (variants : List Variant) (G : Setting → Format Meaning) → DescribesFirst number v.items variants →
    length variants ≡ number → 0 < number → (s : Setting) → (G s).read ≡ (tag_then_part tag variants s).read → WrittenAlike (G s) (tag_then_part tag variants s) →
    SameWords (format_of (shapes.Choice v) s) (G s)
all-first number v variants G d all some s read written = rw (formats_of-vec v) (same-then
    (whole v.items variants (omega (arith, some, d.0)) (all-same s 0 v.items variants (all ∙ sym d.0) (d.1 s)))
    (record { read = sym read; written = (written.1, written.0) })) where
      whole : (parts : List Shape) (variants : List Variant) → 0 < length parts → SameVariants s (numbered_variants 0 (formats parts)) variants →
          SameWords (one_of (numbered_variants 0 (formats parts)) s) (tag_then_part tag variants s)
      whole [] variants some h = absurd (omega (arith, some))
      whole (p ∷ ps) variants some h = chosen-same tag s _ _ h
