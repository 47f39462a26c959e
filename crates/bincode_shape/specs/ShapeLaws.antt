-- The laws of the format of each shape.
use Rattle.std.specs.Prelude.{ℕ, ◌+◌, ◌≤◌, ◌==◌, List, [], ◌∷◌, refl}
use Rattle.std.proofs.Common.{arith}
use Rattle.bincode_base.specs.declared.error.IntegerType.TheVariants as integers
use Rattle.bincode_base.specs.Setting.{Setting}
use Rattle.bincode_spec.specs.Layers.Laws.{AllLawful, AllBalanced, IsLawful, IsBalanced}
use Rattle.bincode_spec.specs.Fault.{Allowed, EmptyEnum, UnexpectedVariant}
use Rattle.bincode_spec.specs.Format.{Format}
use Rattle.bincode_spec.specs.Integers.{Two, Four, Eight, Sixteen, unsigned_integer, signed_integer, unsigned_byte, signed_byte}
use Rattle.bincode_spec.specs.Meaning.{Meaning, Choice}
use Rattle.bincode_spec.specs.Words.{Variant, tuple, tag, variant_tags, allowed_tags, part, truth_of}
use Rattle.bincode_lemmas.specs.Balance.{fail-holds, map-balanced}
use Rattle.bincode_lemmas.specs.ChargedLaws.{ChargesEnough, map-charged, test-charged, unsigned-charged, signed-charged, unsigned_byte-charged, signed_byte-charged, character-charged}
use Rattle.bincode_lemmas.specs.ChargedLaws.{nothing-charged, then-charged, array-charged, list-charged, text-charged, picked-charged, fail-charged, chosen-charged}
use Rattle.bincode_lemmas.specs.ChoiceLaws.{chosen-lawful, chosen-balanced}
use Rattle.bincode_lemmas.specs.FormatLaws.{fail-lawful, map-lawful}
use Rattle.bincode_lemmas.specs.IntegerLaws.{unsigned-lawful, unsigned-balanced, signed-lawful, signed-balanced, unsigned_byte-lawful, unsigned_byte-balanced, signed_byte-lawful, signed_byte-balanced}
use Rattle.bincode_lemmas.specs.ListLaws.{list-lawful, list-balanced}
use Rattle.bincode_lemmas.specs.WordsLaws.{truth-lawful, truth-balanced, array-lawful, array-balanced}
use Rattle.bincode_shape.specs.declared.shape.Shape as shapes
use Rattle.bincode_shape.specs.declared.shape.Shape.{Shape, Row_of-Shape, end_of-Shape, more_of-Shape}
use Rattle.bincode_shape.specs.Shapes.{share, byte_tag, option_variants, one_of, at, numbered_variants, format_of, formats_of}
use Rattle.bincode_lemmas.specs.CharLaws.{character-lawful, character-balanced}
use Rattle.bincode_lemmas.specs.TextLaws.{text-lawful, text-balanced}
use Rattle.bincode_lemmas.specs.TupleLaws.{nothing-lawful, nothing-balanced, then-lawful, then-balanced}

-- each of the formats is lawful, and balanced
abbrev EachLawful : Setting → List (Setting → Format Meaning) → Type 0
EachLawful s [] = Unit {0}
EachLawful s (F ∷ others) = IsLawful (F s) × EachLawful s others

abbrev EachBalanced : Setting → List (Setting → Format Meaning) → Type 0
EachBalanced s [] = Unit {0}
EachBalanced s (F ∷ others) = IsBalanced (F s) × EachBalanced s others

tuple-lawful : (parts : List (Setting → Format Meaning)) (s : Setting) → EachLawful s parts → IsLawful (tuple (at s parts))
tuple-lawful [] s h = nothing-lawful
tuple-lawful (F ∷ others) s h = then-lawful h.0 (tuple-lawful others s h.1)

tuple-balanced : (parts : List (Setting → Format Meaning)) (s : Setting) → EachBalanced s parts → IsBalanced (tuple (at s parts))
tuple-balanced [] s h = nothing-balanced
tuple-balanced (F ∷ others) s h = then-balanced h.0 (tuple-balanced others s h.1)

numbered-lawful : (n : ℕ) (parts : List (Setting → Format Meaning)) (s : Setting) → EachLawful s parts → AllLawful s (numbered_variants n parts)
numbered-lawful n [] s h = tt
numbered-lawful n (F ∷ others) s h = (h.0, numbered-lawful (n + 1) others s h.1)

numbered-balanced : (n : ℕ) (parts : List (Setting → Format Meaning)) (s : Setting) → EachBalanced s parts → AllBalanced s (numbered_variants n parts)
numbered-balanced n [] s h = tt
numbered-balanced n (F ∷ others) s h = (h.0, numbered-balanced (n + 1) others s h.1)

one_of-lawful : (variants : List Variant) (s : Setting) → AllLawful s variants → IsLawful (one_of variants s)
one_of-lawful [] s h = fail-lawful EmptyEnum (λ e. e)
one_of-lawful (variant ∷ others) s h = chosen-lawful _ (variant ∷ others) s (unsigned-lawful integers.U32 4 s (Four refl)) h

one_of-balanced : (variants : List Variant) (s : Setting) → AllBalanced s variants → IsBalanced (one_of variants s)
one_of-balanced [] s h = fail-holds 0 0 EmptyEnum
one_of-balanced (variant ∷ others) s h = chosen-balanced _ (variant ∷ others) s (unsigned-balanced integers.U32 4 s) h

mutual
  -- Each input begins with one word of a shape, or has one fault.
  pub format_of-lawful : (shape : Shape) (s : Setting) → IsLawful (format_of shape s)
  format_of-lawful shapes.Unit s = nothing-lawful
  format_of-lawful shapes.Bool s = truth-lawful
  format_of-lawful shapes.Char s = character-lawful
  format_of-lawful shapes.Text s = text-lawful s
  format_of-lawful shapes.U8 s = map-lawful _ unsigned_byte unsigned_byte-lawful
  format_of-lawful shapes.U16 s = map-lawful _ (unsigned_integer integers.U16 2 s) (unsigned-lawful integers.U16 2 s (Two refl))
  format_of-lawful shapes.U32 s = map-lawful _ (unsigned_integer integers.U32 4 s) (unsigned-lawful integers.U32 4 s (Four refl))
  format_of-lawful shapes.U64 s = map-lawful _ (unsigned_integer integers.U64 8 s) (unsigned-lawful integers.U64 8 s (Eight refl))
  format_of-lawful shapes.U128 s = map-lawful _ (unsigned_integer integers.U128 16 s) (unsigned-lawful integers.U128 16 s (Sixteen refl))
  format_of-lawful shapes.Usize s = map-lawful _ (unsigned_integer integers.Usize 8 s) (unsigned-lawful integers.Usize 8 s (Eight refl))
  format_of-lawful shapes.I8 s = map-lawful _ signed_byte signed_byte-lawful
  format_of-lawful shapes.I16 s = map-lawful _ (signed_integer integers.I16 2 s) (signed-lawful integers.I16 2 s (Two refl))
  format_of-lawful shapes.I32 s = map-lawful _ (signed_integer integers.I32 4 s) (signed-lawful integers.I32 4 s (Four refl))
  format_of-lawful shapes.I64 s = map-lawful _ (signed_integer integers.I64 8 s) (signed-lawful integers.I64 8 s (Eight refl))
  format_of-lawful shapes.I128 s = map-lawful _ (signed_integer integers.I128 16 s) (signed-lawful integers.I128 16 s (Sixteen refl))
  format_of-lawful shapes.Isize s = map-lawful _ (signed_integer integers.Isize 8 s) (signed-lawful integers.Isize 8 s (Eight refl))
  format_of-lawful (shapes.Seq' claim p element) s = list-lawful s (share claim) (format_of element s) (format_of-lawful element s)
  format_of-lawful (shapes.Array' len claim p element) s = array-lawful len (share claim) (format_of element s) (format_of-lawful element s)
  format_of-lawful (shapes.Tuple' v parts) s = tuple-lawful (formats_of parts) s (parts-lawful parts s)
  format_of-lawful (shapes.Optional' p part) s = chosen-lawful byte_tag _ s unsigned_byte-lawful (nothing-lawful, (format_of-lawful part s, tt))
  format_of-lawful (shapes.Choice' v parts) s = one_of-lawful (numbered_variants 0 (formats_of parts)) s (numbered-lawful 0 (formats_of parts) s (parts-lawful parts s))

  parts-lawful : {m : _} → (parts : Row_of-Shape m) (s : Setting) → EachLawful s (formats_of parts)
  parts-lawful end_of-Shape s = tt
  parts-lawful (more_of-Shape part others) s = (format_of-lawful part s, parts-lawful others s)

mutual
  -- A word releases what it reserves.
  pub format_of-balanced : (shape : Shape) (s : Setting) → IsBalanced (format_of shape s)
  format_of-balanced shapes.Unit s = nothing-balanced
  format_of-balanced shapes.Bool s = truth-balanced
  format_of-balanced shapes.Char s = character-balanced
  format_of-balanced shapes.Text s = text-balanced s
  format_of-balanced shapes.U8 s = map-balanced _ unsigned_byte unsigned_byte-balanced
  format_of-balanced shapes.U16 s = map-balanced _ (unsigned_integer integers.U16 2 s) (unsigned-balanced integers.U16 2 s)
  format_of-balanced shapes.U32 s = map-balanced _ (unsigned_integer integers.U32 4 s) (unsigned-balanced integers.U32 4 s)
  format_of-balanced shapes.U64 s = map-balanced _ (unsigned_integer integers.U64 8 s) (unsigned-balanced integers.U64 8 s)
  format_of-balanced shapes.U128 s = map-balanced _ (unsigned_integer integers.U128 16 s) (unsigned-balanced integers.U128 16 s)
  format_of-balanced shapes.Usize s = map-balanced _ (unsigned_integer integers.Usize 8 s) (unsigned-balanced integers.Usize 8 s)
  format_of-balanced shapes.I8 s = map-balanced _ signed_byte signed_byte-balanced
  format_of-balanced shapes.I16 s = map-balanced _ (signed_integer integers.I16 2 s) (signed-balanced integers.I16 2 s)
  format_of-balanced shapes.I32 s = map-balanced _ (signed_integer integers.I32 4 s) (signed-balanced integers.I32 4 s)
  format_of-balanced shapes.I64 s = map-balanced _ (signed_integer integers.I64 8 s) (signed-balanced integers.I64 8 s)
  format_of-balanced shapes.I128 s = map-balanced _ (signed_integer integers.I128 16 s) (signed-balanced integers.I128 16 s)
  format_of-balanced shapes.Isize s = map-balanced _ (signed_integer integers.Isize 8 s) (signed-balanced integers.Isize 8 s)
  format_of-balanced (shapes.Seq' claim p element) s = list-balanced s (share claim) (format_of element s) (format_of-balanced element s)
  format_of-balanced (shapes.Array' len claim p element) s = array-balanced len (share claim) (format_of element s) (format_of-balanced element s)
  format_of-balanced (shapes.Tuple' v parts) s = tuple-balanced (formats_of parts) s (parts-balanced parts s)
  format_of-balanced (shapes.Optional' p part) s = chosen-balanced byte_tag _ s unsigned_byte-balanced (nothing-balanced, (format_of-balanced part s, tt))
  format_of-balanced (shapes.Choice' v parts) s = one_of-balanced (numbered_variants 0 (formats_of parts)) s (numbered-balanced 0 (formats_of parts) s (parts-balanced parts s))

  parts-balanced : {m : _} → (parts : Row_of-Shape m) (s : Setting) → EachBalanced s (formats_of parts)
  parts-balanced end_of-Shape s = tt
  parts-balanced (more_of-Shape part others) s = (format_of-balanced part s, parts-balanced others s)

-- each of the formats charges enough
abbrev EachCharged : Setting → List (Setting → Format Meaning) → Type 0
EachCharged s [] = Unit {0}
EachCharged s (F ∷ others) = ChargesEnough (F s) × EachCharged s others

abbrev AllCharged : Setting → List Variant → Type 0
AllCharged s [] = Unit {0}
AllCharged s (variant ∷ others) = ChargesEnough (variant.1 s) × AllCharged s others

tuple-charged : (parts : List (Setting → Format Meaning)) (s : Setting) → EachCharged s parts → ChargesEnough (tuple (at s parts))
tuple-charged [] s h = nothing-charged
tuple-charged (F ∷ others) s h = then-charged h.0 (tuple-charged others s h.1)

numbered-charged : (n : ℕ) (parts : List (Setting → Format Meaning)) (s : Setting) → EachCharged s parts → AllCharged s (numbered_variants n parts)
numbered-charged n [] s h = tt
numbered-charged n (F ∷ others) s h = (h.0, numbered-charged (n + 1) others s h.1)

part-charged : (s : Setting) (variants : List Variant) (allowed : Allowed) (found : ℕ) → AllCharged s variants → ChargesEnough (part s variants allowed found)
part-charged s [] allowed found h = fail-charged (UnexpectedVariant allowed found)
part-charged s (variant ∷ others) allowed found h =
    picked-charged (found == variant.0) _ _ (map-charged (Choice found) (variant.1 s) h.0) (part-charged s others allowed found h.1)

one_of-charged : (variants : List Variant) (s : Setting) → AllCharged s variants → ChargesEnough (one_of variants s)
one_of-charged [] s h = fail-charged EmptyEnum
one_of-charged (variant ∷ others) s h =
    chosen-charged tag (variant ∷ others) s (unsigned-charged integers.U32 4 s (omega arith))
    (λ found. part-charged s (variant ∷ others) (allowed_tags (variant_tags (variant ∷ others))) found h)

share-some : (claim : ℕ) → 1 ≤ share claim
share-some claim = omega arith

mutual
  -- A word charges for its bytes, and at least one byte for each element.
  pub format_of-charged : (shape : Shape) (s : Setting) → ChargesEnough (format_of shape s)
  format_of-charged shapes.Unit s = nothing-charged
  format_of-charged shapes.Bool s = test-charged unsigned_byte truth_of unsigned_byte-charged
  format_of-charged shapes.Char s = character-charged
  format_of-charged shapes.Text s = text-charged s
  format_of-charged shapes.U8 s = map-charged _ unsigned_byte unsigned_byte-charged
  format_of-charged shapes.U16 s = map-charged _ (unsigned_integer integers.U16 2 s) (unsigned-charged integers.U16 2 s (omega arith))
  format_of-charged shapes.U32 s = map-charged _ (unsigned_integer integers.U32 4 s) (unsigned-charged integers.U32 4 s (omega arith))
  format_of-charged shapes.U64 s = map-charged _ (unsigned_integer integers.U64 8 s) (unsigned-charged integers.U64 8 s (omega arith))
  format_of-charged shapes.U128 s = map-charged _ (unsigned_integer integers.U128 16 s) (unsigned-charged integers.U128 16 s (omega arith))
  format_of-charged shapes.Usize s = map-charged _ (unsigned_integer integers.Usize 8 s) (unsigned-charged integers.Usize 8 s (omega arith))
  format_of-charged shapes.I8 s = map-charged _ signed_byte signed_byte-charged
  format_of-charged shapes.I16 s = map-charged _ (signed_integer integers.I16 2 s) (signed-charged integers.I16 2 s (omega arith))
  format_of-charged shapes.I32 s = map-charged _ (signed_integer integers.I32 4 s) (signed-charged integers.I32 4 s (omega arith))
  format_of-charged shapes.I64 s = map-charged _ (signed_integer integers.I64 8 s) (signed-charged integers.I64 8 s (omega arith))
  format_of-charged shapes.I128 s = map-charged _ (signed_integer integers.I128 16 s) (signed-charged integers.I128 16 s (omega arith))
  format_of-charged shapes.Isize s = map-charged _ (signed_integer integers.Isize 8 s) (signed-charged integers.Isize 8 s (omega arith))
  format_of-charged (shapes.Seq' claim p element) s = list-charged s (share claim) (format_of element s) (share-some claim) (format_of-charged element s)
  format_of-charged (shapes.Array' len claim p element) s = array-charged len (share claim) (format_of element s) (share-some claim) (format_of-charged element s)
  format_of-charged (shapes.Tuple' v parts) s = tuple-charged (formats_of parts) s (parts-charged parts s)
  format_of-charged (shapes.Optional' p element) s =
      let variants = option_variants (format_of element) in
      chosen-charged byte_tag variants s unsigned_byte-charged (λ found. part-charged s variants (allowed_tags (variant_tags variants)) found (nothing-charged, (format_of-charged element s, tt)))
  format_of-charged (shapes.Choice' v parts) s = one_of-charged (numbered_variants 0 (formats_of parts)) s (numbered-charged 0 (formats_of parts) s (parts-charged parts s))

  parts-charged : {m : _} → (parts : Row_of-Shape m) (s : Setting) → EachCharged s (formats_of parts)
  parts-charged end_of-Shape s = tt
  parts-charged (more_of-Shape element others) s = (format_of-charged element s, parts-charged others s)
