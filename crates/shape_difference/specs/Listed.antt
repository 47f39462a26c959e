-- What vectors of values stand for, by their items.
use Rattle.std.specs.Prelude.{◌≡◌, suc, Bool, false, List, [], ◌∷◌, length, refl}
use Rattle.std.proofs.lemmas.Bool.{and_right}
use Rattle.bincode_shape.specs.Shapes.{each_passes}
use Rattle.std.proofs.Common.{◌∙◌, ap}
use Rattle.std.specs.declared.alloc.Global.{Global}
use Rattle.std.specs.declared.vec.Vec.{Vec}
use Rattle.bincode_shape.specs.declared.shape.Value.{Value, Row_of-Value, end_of-Value, more_of-Value, items-the_row-Value, items_hidden-the_row-Value-0}
use Rattle.bincode_shape.specs.declared.shape.Value.TheBlock.{hidden-the_row-Value-0}
use Rattle.shape_difference.specs.Alike.{alike, tests_of}

abbrev pub tests : List Value → List (Value → Bool)
tests [] = []
tests (item ∷ others) = alike item ∷ tests others

tests-items : {m : _} → (row : Row_of-Value m) → tests_of row ≡ tests (items-the_row-Value _ row)
tests-items end_of-Value = refl
tests-items (more_of-Value item others) = ap (λ z. alike item ∷ z) (tests-items others)

pub tests-vec : (v : Vec Value Global) → tests_of (hidden-the_row-Value-0 v) ≡ tests v.items
tests-vec v = tests-items (hidden-the_row-Value-0 v) ∙ ap tests (items_hidden-the_row-Value-0 v)

pub length-tests : (items : List Value) → length (tests items) ≡ length items
length-tests [] = refl
length-tests (item ∷ items) = ap suc (length-tests items)

-- lists of different lengths do not mean the same
pub lengths-differ : (items others : List Value) → (length items ≡ length others → ⊥) → each_passes (tests items) others ≡ false
lengths-differ [] [] h = absurd (h refl)
lengths-differ [] (other ∷ others) h = refl
lengths-differ (item ∷ items) [] h = refl
lengths-differ (item ∷ items) (other ∷ others) h = and_right (alike item other) (each_passes (tests items) others) (lengths-differ items others (λ e. h (ap suc e)))
