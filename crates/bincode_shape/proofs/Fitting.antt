-- Testing a value against the parts of a shape.
use Rattle.std.specs.Prelude.{◌≡◌, ℕ, zero, suc, ◌+◌, ◌<◌, ◌≤◌, Bool, true, false, ◌&&◌, List, [], ◌∷◌, length, get_or, drop, Box, Some, refl}
use Rattle.std.specs.List.{slice_get}
use Rattle.std.proofs.Common.{ap, sym, arith}
use Rattle.std.proofs.lemmas.List.{drop_more}
use Rattle.std.specs.declared.alloc.Global.{Global}
use Rattle.std.specs.declared.vec.Vec.{Vec}
use Rattle.bincode_shape.specs.declared.shape.Shape as shapes
use Rattle.bincode_shape.specs.declared.shape.Shape.{Shape}
use Rattle.bincode_shape.specs.declared.shape.Value as values
use Rattle.bincode_shape.specs.declared.shape.Value.{Value, items_hidden-the_row-Value-0}
use Rattle.bincode_shape.specs.Shapes.{fits, each_passes, picked_passes}
use Rattle.bincode_shape.specs.Rows.{tests, tests_of-vec}

pub fits-Tuple : (p : Vec Shape Global) (v : Vec Value Global) → fits (shapes.Tuple p) (values.List v) ≡ each_passes (tests p.items) v.items
fits-Tuple p v = rw (tests_of-vec p, items_hidden-the_row-Value-0 v) refl

pub fits-Choice : (p : Vec Shape Global) (n : ℕ) (b : Box Value Global) → fits (shapes.Choice p) (values.Choice n b) ≡ picked_passes (tests p.items) n b.value
fits-Choice p n b = rw (tests_of-vec p) refl

-- lists of different lengths don't fit
pub lengths-differ : (ps : List Shape) (vs : List Value) → (length ps ≡ length vs → ⊥) → each_passes (tests ps) vs ≡ false
lengths-differ [] [] h = absurd (h refl)
lengths-differ [] (v ∷ vs) h = refl
lengths-differ (p ∷ ps) [] h = refl
lengths-differ (p ∷ ps) (v ∷ vs) h = let k = lengths-differ ps vs (λ e. h (ap suc e)) in rw k (and-false (fits p v))
  where
    and-false : (b : Bool) → b && false ≡ false
    and-false true = refl
    and-false false = refl

-- the next part with the next item
pub each-next : (ps : List Shape) (vs : List Value) (i : ℕ) (p : Shape) (v : Value) → i < length ps → i < length vs →
    each_passes (tests (drop i ps)) (drop i vs) ≡ (fits (get_or ps i p) (get_or vs i v) && each_passes (tests (drop (i + 1) ps)) (drop (i + 1) vs))
each-next ps vs i p v h k = rw (drop_more ps i p h, drop_more vs i v k) refl

-- the part that a tag selects
pub picked-found : (ps : List Shape) (n : ℕ) (p : Shape) (v : Value) → slice_get ps n ≡ Some p → picked_passes (tests ps) n v ≡ fits p v
picked-found [] n p v e = absurd (cc)
picked-found (q ∷ ps) zero p v e = let h : q ≡ p = cc in ap (λ z. fits z v) h
picked-found (q ∷ ps) (suc n) p v e = picked-found ps n p v e

pub picked-none : (ps : List Shape) (n : ℕ) (v : Value) → length ps ≤ n → picked_passes (tests ps) n v ≡ false
picked-none [] n v h = refl
picked-none (q ∷ ps) zero v h = absurd (omega arith)
picked-none (q ∷ ps) (suc n) v h = picked-none ps n v (omega (arith, h))

-- the part at an index
pub picked-at : (ps : List Shape) (n : ℕ) (p : Shape) (v : Value) → n < length ps → p ≡ get_or ps n p → picked_passes (tests ps) n v ≡ fits p v
picked-at [] n p v h e = absurd (omega arith)
picked-at (q ∷ ps) zero p v h e = ap (λ z. fits z v) (sym e)
picked-at (q ∷ ps) (suc n) p v h e = picked-at ps n p v (omega (arith, h)) e
