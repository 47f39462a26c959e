use Rattle.std.proofs.Common.{arith}
use Rattle.bincode_shape.specs.Rows.{deepest-vec}
use Rattle.shape_grammar.proofs.text.tuple.Goals as goal

pub invariant_of-result : goal.invariant_of-result
invariant_of-result c =
    let deep = c.args.parts.deep in
    let same = deepest-vec c.args.parts.shapes in
    record { deep = omega (arith, deep, same) }
