-- Which text spells which shape: the text before a part, its shape, and the text after it.
use Rattle.std.specs.Prelude.{◌≡◌, ℕ, List, [], ◌∷◌, ◌++◌, Some, Box}
use Rattle.std.specs.Str.Parse.{IsNumeral, digits_value, without_leading_plus}
use Rattle.std.specs.declared.alloc.Global.{Global}
use Rattle.std.specs.declared.vec.Vec.{Vec}
use Rattle.bincode_shape.specs.declared.shape.Shape.{Shape}
use Rattle.bincode_shape.specs.declared.shape.Shape.TheVariants as shapes
use Rattle.shape_grammar.specs.Claims.{claim, as_u128}
use Rattle.shape_grammar.specs.Marks.{Mark, Word, IsEnd}
use Rattle.shape_grammar.specs.Names.{shape_named}

-- what is spelled: a part alone, a part with question marks after it, any part; variants with bars between them, variants
-- with a bar before each, and parts with commas between them
pub data Kind : Type 0 where
  Alone : Kind
  Marked : Kind
  Any : Kind
  Variants : Kind
  Barred : Kind
  Parts : Kind

-- a length in decimal digits, which a plus may precede
pub record Length (len : ℕ) (before after : List ℕ) : Type 0 where
  pub word : List ℕ
  pub is_word : Word word before after
  pub are_digits : IsNumeral 10 (without_leading_plus word)
  pub is_value : len ≡ digits_value 10 (without_leading_plus word)

pub data Spells : Kind → List ℕ → List Shape → List ℕ → Type 0 where
  nothing : (a b c : List ℕ) → Mark 40 a b → Mark 41 b c → Spells Alone a (shapes.Unit ∷ []) c
  name : (word a b : List ℕ) (shape : Shape) → Word word a b → shape_named word ≡ Some shape → Spells Alone a (shape ∷ []) b
  brackets : (a b c d : List ℕ) (shape : Shape) → Mark 40 a b → Spells Any b (shape ∷ []) c → Mark 41 c d → Spells Alone a (shape ∷ []) d
  tuple : (a b c d : List ℕ) (parts : Vec Shape Global) → Mark 40 a b → Spells Parts b parts.items c → Mark 41 c d → Spells Alone a (shapes.Tuple parts ∷ []) d
  tuple_comma : (a b c d e : List ℕ) (parts : Vec Shape Global) → Mark 40 a b → Spells Parts b parts.items c → Mark 44 c d → Mark 41 d e → Spells Alone a (shapes.Tuple parts ∷ []) e
  list : (a b c d : List ℕ) (element : Box Shape Global) → Mark 91 a b → Spells Any b (element.value ∷ []) c → Mark 93 c d
      → Spells Alone a (shapes.Seq (as_u128 (claim element.value)) element ∷ []) d
  array : (a b c d e f : List ℕ) (len : ℕ) (element : Box Shape Global) → Mark 91 a b → Spells Any b (element.value ∷ []) c → Mark 59 c d → Length len d e → Mark 93 e f
      → Spells Alone a (shapes.Array len (as_u128 (claim element.value)) element ∷ []) f
  unmarked : (a b : List ℕ) (shape : Shape) → Spells Alone a (shape ∷ []) b → Spells Marked a (shape ∷ []) b
  optional : (a b c : List ℕ) (part : Box Shape Global) → Spells Marked a (part.value ∷ []) b → Mark 63 b c → Spells Marked a (shapes.Optional part ∷ []) c
  one : (a b : List ℕ) (shape : Shape) → Spells Marked a (shape ∷ []) b → Spells Any a (shape ∷ []) b
  choice : (a b : List ℕ) (variants : Vec Shape Global) → Spells Variants a variants.items b → Spells Any a (shapes.Choice variants ∷ []) b
  barred_choice : (a b : List ℕ) (variants : Vec Shape Global) → Spells Barred a variants.items b → Spells Any a (shapes.Choice variants ∷ []) b
  variants : (a b c d : List ℕ) (first second : Shape) → Spells Marked a (first ∷ []) b → Mark 124 b c → Spells Marked c (second ∷ []) d → Spells Variants a (first ∷ second ∷ []) d
  variant : (a b c d : List ℕ) (others : List Shape) (last : Shape) → Spells Variants a others b → Mark 124 b c → Spells Marked c (last ∷ []) d → Spells Variants a (others ++ last ∷ []) d
  barred : (a b c : List ℕ) (first : Shape) → Mark 124 a b → Spells Marked b (first ∷ []) c → Spells Barred a (first ∷ []) c
  barred_variant : (a b c d : List ℕ) (others : List Shape) (last : Shape) → Spells Barred a others b → Mark 124 b c → Spells Marked c (last ∷ []) d → Spells Barred a (others ++ last ∷ []) d
  part : (a b : List ℕ) (shape : Shape) → Spells Any a (shape ∷ []) b → Spells Parts a (shape ∷ []) b
  parts : (a b c d : List ℕ) (others : List Shape) (last : Shape) → Spells Parts a others b → Mark 44 b c → Spells Any c (last ∷ []) d → Spells Parts a (others ++ last ∷ []) d

-- the whole text spells the shape
pub record IsSpelled (text : List ℕ) (shape : Shape) : Type 0 where
  pub rest : List ℕ
  pub is_spelled : Spells Any text (shape ∷ []) rest
  pub is_end : IsEnd rest
