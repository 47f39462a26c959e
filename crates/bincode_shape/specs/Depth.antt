-- How deep shapes are nested.
use Rattle.std.specs.Prelude.{ℕ, ◌+◌, ◌-◌, ◌^◌, max, min, List, [], ◌∷◌}
use Rattle.bincode_shape.specs.declared.shape.Shape as shapes
use Rattle.bincode_shape.specs.declared.shape.Shape.{Shape, Row_of-Shape, end_of-Shape, more_of-Shape}

abbrev mutual
  -- one more than the deepest part, and 0 without parts
  pub depth : Shape → ℕ
  depth (shapes.Seq' claim p element) = depth element + 1
  depth (shapes.Array' len claim p element) = depth element + 1
  depth (shapes.Tuple' v parts) = depth_of parts + 1
  depth (shapes.Optional' p part) = depth part + 1
  depth (shapes.Choice' v parts) = depth_of parts + 1
  depth _ = 0

  pub depth_of : {m : _} → Row_of-Shape m → ℕ
  depth_of end_of-Shape = 0
  depth_of (more_of-Shape part others) = max (depth part) (depth_of others)

-- the deepest of some shapes
abbrev pub deepest : List Shape → ℕ
deepest [] = 0
deepest (shape ∷ others) = max (depth shape) (deepest others)

-- as a `usize`, at most its maximum
abbrev pub capped_depth : Shape → ℕ
capped_depth shape = min (depth shape) (2 ^ 64 - 1)

abbrev pub capped_deepest : List Shape → ℕ
capped_deepest shapes = min (deepest shapes) (2 ^ 64 - 1)
