-- What vectors of shapes stand for, by their items.
use Rattle.std.specs.Prelude.{◌≡◌, ℕ, Bool, false, not, ◌&&◌, ◌||◌, ◌==◌, if◌then◌else◌, List, [], ◌∷◌, refl}
use Rattle.std.specs.List.{list_all}
use Rattle.std.proofs.Common.{◌∙◌, ap}
use Rattle.std.specs.declared.alloc.Global.{Global}
use Rattle.std.specs.declared.vec.Vec.{Vec}
use Rattle.bincode_base.specs.declared.config.IntEncoding.{IntEncoding}
use Rattle.bincode_shape.specs.declared.shape.Shape.{Shape, Row_of-Shape, end_of-Shape, more_of-Shape, items-the_row-Shape, items_hidden-the_row-Shape-0}
use Rattle.bincode_shape.specs.declared.shape.Shape.TheBlock.{hidden-the_row-Shape-0}
use Rattle.bincode_shape.specs.Shapes.{format_of, formats_of}
use Rattle.bincode_shape.specs.Rows.{formats}
use Rattle.bincode_evolution.specs.Rules.{has_words, all_have_words, some_has_words, is_nothing, is_row, is_read, Part, parts_of}

-- some shape of the list has words
abbrev pub any_has_words : List Shape → Bool
any_has_words [] = false
any_has_words (shape ∷ others) = has_words shape || any_has_words others

-- a part of an old shape
abbrev pub part_of : IntEncoding → Shape → Part
part_of encoding shape = record { has_words = has_words shape; is_read_by = is_read encoding shape }

abbrev pub parts_in_list : IntEncoding → List Shape → List Part
parts_in_list encoding [] = []
parts_in_list encoding (shape ∷ others) = part_of encoding shape ∷ parts_in_list encoding others

-- an array of this length and element
abbrev pub is_array_read : IntEncoding → ℕ → Shape → Shape → Bool
is_array_read encoding len element new = if len == 0 then is_nothing new else is_row len (is_read encoding element) new || not (has_words element)

-- the first of these variants reads the part, if there is one
abbrev pub is_variant_read : Part → List Shape → Bool
is_variant_read part [] = not part.has_words
is_variant_read part (new ∷ others) = part.is_read_by new

all-items : {m : _} → (row : Row_of-Shape m) → all_have_words row ≡ list_all has_words (items-the_row-Shape _ row)
all-items end_of-Shape = refl
all-items (more_of-Shape part others) = ap (λ z. has_words part && z) (all-items others)

pub all-vec : (v : Vec Shape Global) → all_have_words (hidden-the_row-Shape-0 v) ≡ list_all has_words v.items
all-vec v = all-items (hidden-the_row-Shape-0 v) ∙ ap (list_all has_words) (items_hidden-the_row-Shape-0 v)

some-items : {m : _} → (row : Row_of-Shape m) → some_has_words row ≡ any_has_words (items-the_row-Shape _ row)
some-items end_of-Shape = refl
some-items (more_of-Shape part others) = ap (λ z. has_words part || z) (some-items others)

pub some-vec : (v : Vec Shape Global) → some_has_words (hidden-the_row-Shape-0 v) ≡ any_has_words v.items
some-vec v = some-items (hidden-the_row-Shape-0 v) ∙ ap any_has_words (items_hidden-the_row-Shape-0 v)

parts-items : (encoding : IntEncoding) → {m : _} → (row : Row_of-Shape m) → parts_of encoding row ≡ parts_in_list encoding (items-the_row-Shape _ row)
parts-items encoding end_of-Shape = refl
parts-items encoding (more_of-Shape part others) = ap (λ z. part_of encoding part ∷ z) (parts-items encoding others)

pub parts-vec : (encoding : IntEncoding) (v : Vec Shape Global) → parts_of encoding (hidden-the_row-Shape-0 v) ≡ parts_in_list encoding v.items
parts-vec encoding v = parts-items encoding (hidden-the_row-Shape-0 v) ∙ ap (parts_in_list encoding) (items_hidden-the_row-Shape-0 v)

-- the formats of a row are those of its items
pub formats-items : {m : _} → (row : Row_of-Shape m) → formats_of row ≡ formats (items-the_row-Shape _ row)
formats-items end_of-Shape = refl
formats-items (more_of-Shape part others) = ap (λ z. format_of part ∷ z) (formats-items others)
