use Rattle.std.proofs.Common.{◌≡◌, drop, [], arith}
use Rattle.std.proofs.lemmas.List.{drop_all}
use Rattle.bincode_shape.specs.Rows.{deepest-vec}
use Rattle.bincode_shape.proofs.+depth.Goals as goal

pub depth::depth_of-returns : goal.depth::depth_of-returns
depth::depth_of-returns t c =
    let e : drop c.loop-part.part-index c.args.parts.now ≡ [] = drop_all c.loop-part.part-index c.args.parts.now (omega arith) in
    let h = rw e at c.loop-part.invariant.0 in
    let k = c.loop-part.invariant.1 in
    omega (arith, h, k)

pub shape::Shape::depth-returns-in-Tuple : goal.shape::Shape::depth-returns-in-Tuple
shape::Shape::depth-returns-in-Tuple t c =
    let h = rw c.deref-in-Tuple.ensures.value at c.depth_of.ensures in
    rw (c.in-Tuple.is, deepest-vec c.in-Tuple.parts) (omega (arith, h))

pub shape::Shape::depth-returns-in-Choice : goal.shape::Shape::depth-returns-in-Choice
shape::Shape::depth-returns-in-Choice t c =
    let h = rw c.deref-in-Choice.ensures.value at c.depth_of-in-Choice.ensures in
    rw (c.in-Choice.is, deepest-vec c.in-Choice.parts) (omega (arith, h))
