-- What kind of value a shape stands for.
use Rattle.std.specs.Prelude.{◌≡◌, ℕ, zero, suc, Bool, true, false, List, [], ◌∷◌, Option, Some, None, length}
use Rattle.bincode_spec.specs.Meaning.{Meaning, Truth, Number, Real, Character, Bytes, Nothing, Then, Choice}
use Rattle.bincode_shape.specs.declared.shape.Shape as shapes
use Rattle.bincode_shape.specs.declared.shape.Shape.{Shape, items-the_row-Shape}
use Rattle.bincode_evolution.specs.Rules.{has_words, is_read}
use Rattle.bincode_base.specs.declared.config.IntEncoding.{IntEncoding}

pub data Kind : Type 0 where
  OfTruth : Kind
  OfNumber : Kind
  OfReal : Kind
  OfCharacter : Kind
  OfText : Kind
  OfRow : Kind
  OfChoice : Kind

-- the kind of a meaning
abbrev pub kind : Meaning → Kind
kind (Truth b) = OfTruth
kind (Number z) = OfNumber
kind (Real v) = OfReal
kind (Character c) = OfCharacter
kind (Bytes bytes) = OfText
kind Nothing = OfRow
kind (Then m others) = OfRow
kind (Choice n m) = OfChoice

-- the kind of what the words of a shape mean
abbrev pub kind_of : Shape → Kind
kind_of shapes.Unit = OfRow
kind_of shapes.Bool = OfTruth
kind_of shapes.Char = OfCharacter
kind_of shapes.Text = OfText
kind_of (shapes.Seq' claim p element) = OfRow
kind_of (shapes.Array' len claim p element) = OfRow
kind_of (shapes.Tuple' v parts) = OfRow
kind_of (shapes.Optional' p part) = OfChoice
kind_of (shapes.Choice' v parts) = OfChoice
kind_of _ = OfNumber

-- a shape that holds no other
abbrev pub is_scalar : Shape → Bool
is_scalar (shapes.Seq' claim p element) = false
is_scalar (shapes.Array' len claim p element) = false
is_scalar (shapes.Tuple' v parts) = false
is_scalar (shapes.Optional' p part) = false
is_scalar (shapes.Choice' v parts) = false
is_scalar _ = true

-- how many parts each value of the shape has, where that is always the same
abbrev pub row_length : Shape → Option ℕ
row_length shapes.Unit = Some 0
row_length (shapes.Array' len claim p element) = Some len
row_length (shapes.Tuple' v parts) = Some (length (items-the_row-Shape _ parts))
row_length _ = None

-- the element of a list, and the part of an option
abbrev pub element_of : Shape → Option Shape
element_of (shapes.Seq' claim p element) = Some element
element_of _ = None

abbrev pub part_in : Shape → Option Shape
part_in (shapes.Optional' p part) = Some part
part_in _ = None

-- the variant of a tag
abbrev pub nth : List Shape → ℕ → Option Shape
nth [] n = None
nth (shape ∷ others) zero = Some shape
nth (shape ∷ others) (suc n) = nth others n

abbrev pub variant_at : Shape → ℕ → Option Shape
variant_at (shapes.Choice' v parts) n = nth (items-the_row-Shape _ parts) n
variant_at _ n = None

abbrev pub is_choice : Shape → Bool
is_choice (shapes.Choice' v parts) = true
is_choice _ = false

-- where a `false` of the rules is exact: for two shapes without parts; if the old one has words, for two that stand for
-- values of different kinds, or for rows of different lengths; for lists and options of what is clear; and for enums of
-- which a variant is clearly not read, or is missing
pub data IsClear (encoding : IntEncoding) : Shape → Shape → Type 0 where
  of_scalars : {new old : Shape} → is_scalar old ≡ true → is_scalar new ≡ true → IsClear encoding new old
  of_kinds : {new old : Shape} → has_words old ≡ true → (kind_of old ≡ kind_of new → ⊥) → IsClear encoding new old
  of_lengths : {new old : Shape} (old_length new_length : ℕ) → has_words old ≡ true → row_length old ≡ Some old_length → row_length new ≡ Some new_length → (old_length ≡ new_length → ⊥) →
      IsClear encoding new old
  of_lists : {new old : Shape} (old_element new_element : Shape) → element_of old ≡ Some old_element → element_of new ≡ Some new_element → IsClear encoding new_element old_element → IsClear encoding new old
  of_options : {new old : Shape} (old_part new_part : Shape) → part_in old ≡ Some old_part → part_in new ≡ Some new_part → IsClear encoding new_part old_part → IsClear encoding new old
  of_variants : {new old : Shape} (n : ℕ) (old_part new_part : Shape) → variant_at old n ≡ Some old_part → variant_at new n ≡ Some new_part → is_read encoding old_part new_part ≡ false →
      IsClear encoding new_part old_part → IsClear encoding new old
  of_missing : {new old : Shape} (n : ℕ) (old_part : Shape) → variant_at old n ≡ Some old_part → is_choice new ≡ true → variant_at new n ≡ None → has_words old_part ≡ true → IsClear encoding new old
