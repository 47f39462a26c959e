-- What vectors of shapes and values stand for, by their items.
use Rattle.std.specs.Prelude.{ℕ, ◌≡◌, ◌+◌, ◌&&◌, max, List, [], ◌∷◌, map, Bool, true, refl}
use Rattle.std.specs.List.{list_all}
use Rattle.std.proofs.Common.{◌∙◌, ap}
use Rattle.std.specs.declared.alloc.Global.{Global}
use Rattle.std.specs.declared.vec.Vec.{Vec}
use Rattle.bincode_base.specs.Setting.{Setting}
use Rattle.bincode_spec.specs.Format.{Format}
use Rattle.bincode_spec.specs.Meaning.{Meaning, list_meaning}
use Rattle.bincode_spec.specs.Allowed.{AllowedWord}
use Rattle.bincode_spec.specs.Words.{tuple}
use Rattle.bincode_shape.specs.declared.shape.Shape.{Shape, Row_of-Shape, end_of-Shape, more_of-Shape, items-the_row-Shape, items_hidden-the_row-Shape-0}
use Rattle.bincode_shape.specs.declared.shape.Shape.TheBlock.{hidden-the_row-Shape-0}
use Rattle.bincode_shape.specs.declared.shape.Value.{Value, Row_of-Value, end_of-Value, more_of-Value, items-the_row-Value, items_hidden-the_row-Value-0}
use Rattle.bincode_shape.specs.declared.shape.Value.TheBlock.{hidden-the_row-Value-0}
use Rattle.bincode_shape.specs.Shapes.{format_of, formats_of, fits, tests_of, at, each_passes, meaning, meanings_of, IsMeant}
use Rattle.bincode_shape.specs.Counts.{values_in, values_of_all, count_of, counts_of, without_bytes, all_without}
use Rattle.bincode_shape.specs.Depth.{depth, depth_of, deepest}

-- the formats of some shapes, and the tests of values by them
abbrev pub formats : List Shape → List (Setting → Format Meaning)
formats [] = []
formats (shape ∷ others) = format_of shape ∷ formats others

abbrev pub tests : List Shape → List (Value → Bool)
tests [] = []
tests (shape ∷ others) = fits shape ∷ tests others

formats_of-items : {m : _} → (row : Row_of-Shape m) → formats_of row ≡ formats (items-the_row-Shape _ row)
formats_of-items end_of-Shape = refl
formats_of-items (more_of-Shape part others) = ap (λ z. format_of part ∷ z) (formats_of-items others)

pub formats_of-vec : (v : Vec Shape Global) → formats_of (hidden-the_row-Shape-0 v) ≡ formats v.items
formats_of-vec v = formats_of-items (hidden-the_row-Shape-0 v) ∙ ap formats (items_hidden-the_row-Shape-0 v)

tests_of-items : {m : _} → (row : Row_of-Shape m) → tests_of row ≡ tests (items-the_row-Shape _ row)
tests_of-items end_of-Shape = refl
tests_of-items (more_of-Shape part others) = ap (λ z. fits part ∷ z) (tests_of-items others)

pub tests_of-vec : (v : Vec Shape Global) → tests_of (hidden-the_row-Shape-0 v) ≡ tests v.items
tests_of-vec v = tests_of-items (hidden-the_row-Shape-0 v) ∙ ap tests (items_hidden-the_row-Shape-0 v)

meanings_of-items : {m : _} → (row : Row_of-Value m) → meanings_of row ≡ map meaning (items-the_row-Value _ row)
meanings_of-items end_of-Value = refl
meanings_of-items (more_of-Value item others) = ap (λ z. meaning item ∷ z) (meanings_of-items others)

pub meanings_of-vec : (v : Vec Value Global) → meanings_of (hidden-the_row-Value-0 v) ≡ map meaning v.items
meanings_of-vec v = meanings_of-items (hidden-the_row-Value-0 v) ∙ ap (map meaning) (items_hidden-the_row-Value-0 v)

-- these values are images of these shapes, and their list means this
abbrev pub AreImages : List Shape → Meaning → List Value → Type 0
AreImages shapes m vs = (each_passes (tests shapes) vs ≡ true) × (m ≡ list_meaning (map meaning vs))

-- a word of the shape for the value, and one of the shapes in order for the values
abbrev pub AllowsImage : Setting → Shape → Value → List ℕ → Type 0
AllowsImage s shape v = AllowedWord (IsMeant v) (format_of shape s)

abbrev pub AllowsImages : Setting → List Shape → List Value → List ℕ → Type 0
AllowsImages s shapes vs = AllowedWord (λ m. m ≡ list_meaning (map meaning vs)) (tuple (at s (formats shapes)))

-- the counts of some shapes, and the number of values in a list
abbrev pub counts : List Shape → List (Meaning → ℕ)
counts [] = []
counts (shape ∷ others) = count_of shape ∷ counts others

abbrev pub all_values : List Value → ℕ
all_values [] = 0
all_values (v ∷ vs) = values_in v + all_values vs

counts_of-items : {m : _} → (row : Row_of-Shape m) → counts_of row ≡ counts (items-the_row-Shape _ row)
counts_of-items end_of-Shape = refl
counts_of-items (more_of-Shape part others) = ap (λ z. count_of part ∷ z) (counts_of-items others)

pub counts_of-vec : (v : Vec Shape Global) → counts_of (hidden-the_row-Shape-0 v) ≡ counts v.items
counts_of-vec v = counts_of-items (hidden-the_row-Shape-0 v) ∙ ap counts (items_hidden-the_row-Shape-0 v)

values_of-items : {m : _} → (row : Row_of-Value m) → values_of_all row ≡ all_values (items-the_row-Value _ row)
values_of-items end_of-Value = refl
values_of-items (more_of-Value item others) = ap (λ z. values_in item + z) (values_of-items others)

pub values_of-vec : (v : Vec Value Global) → values_of_all (hidden-the_row-Value-0 v) ≡ all_values v.items
values_of-vec v = values_of-items (hidden-the_row-Value-0 v) ∙ ap all_values (items_hidden-the_row-Value-0 v)

without-items : {m : _} → (row : Row_of-Shape m) → all_without row ≡ list_all without_bytes (items-the_row-Shape _ row)
without-items end_of-Shape = refl
without-items (more_of-Shape part others) = ap (λ z. without_bytes part && z) (without-items others)

pub without-vec : (v : Vec Shape Global) → all_without (hidden-the_row-Shape-0 v) ≡ list_all without_bytes v.items
without-vec v = without-items (hidden-the_row-Shape-0 v) ∙ ap (list_all without_bytes) (items_hidden-the_row-Shape-0 v)

deepest-items : {m : _} → (row : Row_of-Shape m) → depth_of row ≡ deepest (items-the_row-Shape _ row)
deepest-items end_of-Shape = refl
deepest-items (more_of-Shape part others) = ap (max (depth part)) (deepest-items others)

pub deepest-vec : (v : Vec Shape Global) → depth_of (hidden-the_row-Shape-0 v) ≡ deepest v.items
deepest-vec v = deepest-items (hidden-the_row-Shape-0 v) ∙ ap deepest (items_hidden-the_row-Shape-0 v)
