use Rattle.std.proofs.Common.{◌≡◌, drop}
use Rattle.bincode_shape.specs.Shapes.{each_passes}
use Rattle.shape_difference.specs.Listed.{tests}
use Rattle.shape_difference.proofs.alike.+alike.Given as goal

abbrev pub invariant-is_each_alike-loop-index : goal.invariant-is_each_alike-loop-index
invariant-is_each_alike-loop-index l = each_passes (tests l.items) l.others ≡ each_passes (tests (drop l.index l.items)) (drop l.index l.others)
