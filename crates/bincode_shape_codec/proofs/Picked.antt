-- The part that a tag selects.
use Rattle.std.specs.Prelude.{◌≡◌, ℕ, zero, suc, ◌+◌, ◌<◌, ◌≤◌, ◌==◌, true, false, List, [], ◌∷◌, length, get_or, refl}
use Rattle.std.proofs.Common.{sym, ◌∙◌, ap, arith}
use Rattle.bincode_base.specs.Setting.{Setting}
use Rattle.bincode_spec.specs.Fault.{UnexpectedVariant, Between}
use Rattle.bincode_spec.specs.Format.{fail, map_format}
use Rattle.bincode_spec.specs.Meaning.{Choice}
use Rattle.bincode_spec.specs.Words.{tag, variant_tags, allowed_tags, after_tag, tag_then_part}
use Rattle.bincode_shape.specs.declared.shape.Shape as shapes
use Rattle.bincode_shape.specs.declared.shape.Shape.{Shape}
use Rattle.bincode_shape.specs.declared.shape.Value.{Value}
use Rattle.bincode_shape.specs.Shapes.{format_of, numbered_variants, one_of, picked_passes}
use Rattle.bincode_shape.specs.Rows.{formats, tests}
use Rattle.bincode_shape.proofs.Tags.{allowed-numbered, numbered-here, numbered-none}

pub one_of-some : (ps : List Shape) (s : Setting) → 0 < length ps → one_of (numbered_variants 0 (formats ps)) s ≡ tag_then_part tag (numbered_variants 0 (formats ps)) s
one_of-some [] s h = absurd (omega arith)
one_of-some (p ∷ ps) s h = refl

pub length-formats : (ps : List Shape) → length (formats ps) ≡ length ps
length-formats [] = refl
length-formats (p ∷ ps) = let h = length-formats ps in omega (arith, h)

pub formats-at : (ps : List Shape) (i : ℕ) (d : Shape) → get_or (formats ps) i (format_of d) ≡ format_of (get_or ps i d)
formats-at [] i d = refl
formats-at (p ∷ ps) zero d = refl
formats-at (p ∷ ps) (suc i) d = formats-at ps i d

-- what a test of the length says
pub some-parts : (n : ℕ) → false ≡ (n == 0) → 0 < n
some-parts zero h = absurd (cc)
some-parts (suc n) h = omega arith

pub no-parts : (ps : List Shape) → length ps ≡ 0 → ps ≡ []
no-parts [] h = refl
no-parts (p ∷ ps) h = absurd (omega (arith, h))

-- the part that a tag selects
pub picked : (s : Setting) (ps : List Shape) (found : ℕ) (p : Shape) → found < length ps → p ≡ get_or ps found p → after_tag (numbered_variants 0 (formats ps)) s found ≡ map_format (Choice found) (format_of p s)
picked s ps found p h e =
    let k : 0 + found ≡ found = omega arith in
    let l = length-formats ps in
    rw k at (numbered-here s (allowed_tags (variant_tags (numbered_variants 0 (formats ps)))) 0 found (formats ps) (format_of p) (omega (arith, h, l)) (formats-at ps found p ∙ ap format_of (sym e)))

pub unpicked : (s : Setting) (ps : List Shape) (found last : ℕ) → length ps ≡ last + 1 → length ps ≤ found → after_tag (numbered_variants 0 (formats ps)) s found ≡ fail (UnexpectedVariant (Between 0 last) found)
unpicked s [] found last n h = absurd (omega arith)
unpicked s (p ∷ ps) found last n h =
    let l = length-formats (p ∷ ps) in
    let m = length-formats ps in
    let k : length (formats ps) ≡ last = omega (arith, m, n) in
    numbered-none s (allowed_tags (variant_tags (numbered_variants 0 (formats (p ∷ ps))))) 0 found (formats (p ∷ ps)) (omega (arith, l, h))
    ∙ ap (λ a. fail (UnexpectedVariant a found)) (allowed-numbered (format_of p) (formats ps) ∙ ap (λ z. Between 0 z) k)

-- a tag that selects a test selects a part
pub picked-within : (ps : List Shape) (n : ℕ) (v : Value) → picked_passes (tests ps) n v ≡ true → n < length ps
picked-within [] n v h = absurd (cc)
picked-within (p ∷ ps) zero v h = omega arith
picked-within (p ∷ ps) (suc n) v h = let k = picked-within ps n v h in omega (arith, k)

same_there : (ps : List Shape) (n : ℕ) → n < length ps → get_or ps n shapes.Unit ≡ get_or ps n (get_or ps n shapes.Unit)
same_there [] n h = absurd (omega arith)
same_there (p ∷ ps) zero h = refl
same_there (p ∷ ps) (suc n) h = get_or-default ps n shapes.Unit (get_or ps n shapes.Unit) (omega (arith, h))
  where
    get_or-default : (qs : List Shape) (i : ℕ) (d e : Shape) → i < length qs → get_or qs i d ≡ get_or qs i e
    get_or-default [] i d e h = absurd (omega arith)
    get_or-default (q ∷ qs) zero d e h = refl
    get_or-default (q ∷ qs) (suc i) d e h = get_or-default qs i d e (omega (arith, h))

-- the format that a tag selects
pub picked-there : (s : Setting) (ps : List Shape) (n : ℕ) → n < length ps → after_tag (numbered_variants 0 (formats ps)) s n ≡ map_format (Choice n) (format_of (get_or ps n shapes.Unit) s)
picked-there s ps n h = picked s ps n (get_or ps n shapes.Unit) h (same_there ps n h)
