-- The rules by which the words of an old shape are words of a new one.
use Rattle.std.specs.Prelude.{ℕ, Bool, true, false, not, ◌&&◌, ◌||◌, ◌==◌, nat_le, if◌then◌else◌, List, [], ◌∷◌, length, Option, Some, None}
use Rattle.std.specs.List.{list_all}
use Rattle.bincode_base.specs.declared.config.IntEncoding.{IntEncoding}
use Rattle.bincode_base.specs.declared.config.IntEncoding.TheVariants.{Fixed, Variable}
use Rattle.bincode_shape.specs.declared.shape.Shape as shapes
use Rattle.bincode_shape.specs.declared.shape.Shape.{Shape, Row_of-Shape, end_of-Shape, more_of-Shape, items-the_row-Shape}

abbrev mutual
  -- some bytes are a word of the shape
  pub has_words : Shape → Bool
  has_words (shapes.Array' len claim p element) = (len == 0) || has_words element
  has_words (shapes.Tuple' v parts) = all_have_words parts
  has_words (shapes.Choice' v parts) = some_has_words parts
  has_words _ = true

  pub all_have_words : {m : _} → Row_of-Shape m → Bool
  all_have_words end_of-Shape = true
  all_have_words (more_of-Shape part others) = has_words part && all_have_words others

  pub some_has_words : {m : _} → Row_of-Shape m → Bool
  some_has_words end_of-Shape = false
  some_has_words (more_of-Shape part others) = has_words part || some_has_words others

-- no bytes, and the meaning of no parts
abbrev pub is_nothing : Shape → Bool
is_nothing shapes.Unit = true
is_nothing (shapes.Array' len claim p element) = len == 0
is_nothing (shapes.Tuple' v parts) = length (items-the_row-Shape _ parts) == 0
is_nothing _ = false

abbrev pub is_bool : Shape → Bool
is_bool shapes.Bool = true
is_bool _ = false

abbrev pub is_char : Shape → Bool
is_char shapes.Char = true
is_char _ = false

abbrev pub is_text : Shape → Bool
is_text shapes.Text = true
is_text _ = false

abbrev pub is_u8 : Shape → Bool
is_u8 shapes.U8 = true
is_u8 _ = false

abbrev pub is_i8 : Shape → Bool
is_i8 shapes.I8 = true
is_i8 _ = false

-- the bytes of an unsigned integer wider than one
abbrev pub unsigned_width : Shape → Option ℕ
unsigned_width shapes.U16 = Some 2
unsigned_width shapes.U32 = Some 4
unsigned_width shapes.U64 = Some 8
unsigned_width shapes.U128 = Some 16
unsigned_width shapes.Usize = Some 8
unsigned_width _ = None

-- the bytes of a signed integer wider than one
abbrev pub signed_width : Shape → Option ℕ
signed_width shapes.I16 = Some 2
signed_width shapes.I32 = Some 4
signed_width shapes.I64 = Some 8
signed_width shapes.I128 = Some 16
signed_width shapes.Isize = Some 8
signed_width _ = None

-- an integer may become wider where its length varies, and keeps its width where that is fixed
abbrev pub keeps : IntEncoding → ℕ → Option ℕ → Bool
keeps encoding old None = false
keeps Fixed old (Some new) = old == new
keeps Variable old (Some new) = nat_le old new

-- a list whose elements pass
abbrev pub is_list : (Shape → Bool) → Shape → Bool
is_list test (shapes.Seq' claim p element) = test element
is_list test _ = false

-- as many elements or parts, which all pass
abbrev pub is_row : ℕ → (Shape → Bool) → Shape → Bool
is_row len test (shapes.Array' n claim p element) = (n == len) && test element
is_row len test (shapes.Tuple' v parts) = (length (items-the_row-Shape _ parts) == len) && list_all test (items-the_row-Shape _ parts)
is_row len test _ = false

-- a part of an old shape: whether it has words, and which new shapes read all of them
pub record Part : Type 0 where
  pub has_words : Bool
  pub is_read_by : Shape → Bool

-- the element reads each of the parts
abbrev pub reads_each : Shape → List Part → Bool
reads_each element [] = true
reads_each element (part ∷ parts) = part.is_read_by element && reads_each element parts

-- as many new shapes as parts, each of which reads its own
abbrev pub each_read : List Part → List Shape → Bool
each_read [] [] = true
each_read [] (new ∷ others) = false
each_read (part ∷ parts) [] = false
each_read (part ∷ parts) (new ∷ others) = part.is_read_by new && each_read parts others

-- what has such parts
abbrev pub has_parts : List Part → Shape → Bool
has_parts parts shapes.Unit = length parts == 0
has_parts parts (shapes.Array' len claim p element) = (len == length parts) && reads_each element parts
has_parts parts (shapes.Tuple' v others) = each_read parts (items-the_row-Shape _ others)
has_parts parts _ = false

-- each variant is read by the one of its place, or has no words
abbrev pub variants_read : List Part → List Shape → Bool
variants_read [] new = true
variants_read (part ∷ parts) [] = not part.has_words && variants_read parts []
variants_read (part ∷ parts) (new ∷ others) = part.is_read_by new && variants_read parts others

abbrev pub has_variants : List Part → Shape → Bool
has_variants parts (shapes.Choice' v others) = variants_read parts (items-the_row-Shape _ others)
has_variants parts _ = false

-- a first variant that is nothing, and a second one that reads the part
abbrev pub is_option_of : Part → List Shape → Bool
is_option_of part [] = false
is_option_of part (first ∷ []) = is_nothing first && not part.has_words
is_option_of part (first ∷ second ∷ others) = is_nothing first && part.is_read_by second

abbrev pub is_variable : IntEncoding → Bool
is_variable Fixed = false
is_variable Variable = true

-- an option, or such an enum where its tag has the bytes of the option's
abbrev pub is_optional : IntEncoding → Part → Shape → Bool
is_optional encoding part (shapes.Optional' p new) = part.is_read_by new
is_optional encoding part (shapes.Choice' v others) = is_variable encoding && is_option_of part (items-the_row-Shape _ others)
is_optional encoding part _ = false

abbrev mutual
  -- the new shape reads all words of the old one
  pub is_read : IntEncoding → Shape → Shape → Bool
  is_read encoding shapes.Unit new = is_nothing new
  is_read encoding shapes.Bool new = is_bool new
  is_read encoding shapes.Char new = is_char new
  is_read encoding shapes.Text new = is_text new
  is_read encoding shapes.U8 new = is_u8 new
  is_read encoding shapes.U16 new = keeps encoding 2 (unsigned_width new)
  is_read encoding shapes.U32 new = keeps encoding 4 (unsigned_width new)
  is_read encoding shapes.U64 new = keeps encoding 8 (unsigned_width new)
  is_read encoding shapes.U128 new = keeps encoding 16 (unsigned_width new)
  is_read encoding shapes.Usize new = keeps encoding 8 (unsigned_width new)
  is_read encoding shapes.I8 new = is_i8 new
  is_read encoding shapes.I16 new = keeps encoding 2 (signed_width new)
  is_read encoding shapes.I32 new = keeps encoding 4 (signed_width new)
  is_read encoding shapes.I64 new = keeps encoding 8 (signed_width new)
  is_read encoding shapes.I128 new = keeps encoding 16 (signed_width new)
  is_read encoding shapes.Isize new = keeps encoding 8 (signed_width new)
  is_read encoding (shapes.Seq' claim p element) new = is_list (is_read encoding element) new
  is_read encoding (shapes.Array' len claim p element) new =
      if len == 0 then is_nothing new else is_row len (is_read encoding element) new || not (has_words element)
  is_read encoding (shapes.Tuple' v parts) new = has_parts (parts_of encoding parts) new || not (all_have_words parts)
  is_read encoding (shapes.Optional' p part) new = is_optional encoding (record { has_words = has_words part; is_read_by = is_read encoding part }) new
  is_read encoding (shapes.Choice' v parts) new = has_variants (parts_of encoding parts) new || not (some_has_words parts)

  pub parts_of : IntEncoding → {m : _} → Row_of-Shape m → List Part
  parts_of encoding end_of-Shape = []
  parts_of encoding (more_of-Shape part others) = record { has_words = has_words part; is_read_by = is_read encoding part } ∷ parts_of encoding others
