-- The depth of the deepest of some shapes, with one more.
use Rattle.std.proofs.Common.{◌≡◌, max, List, [], ◌∷◌, ◌++◌, arith}
use Rattle.bincode_shape.specs.declared.shape.Shape.{Shape}
use Rattle.bincode_shape.specs.Depth.{depth, deepest}

pub deepest-append : (xs : List Shape) (x : Shape) → deepest (xs ++ x ∷ []) ≡ max (deepest xs) (depth x)
deepest-append [] x = omega arith
deepest-append (y ∷ ys) x = let h = deepest-append ys x in omega (arith, h)
