use Rattle.std.proofs.Common.{◌≡◌, ◌<◌, ◌-◌, ◌^◌, max, min, drop}
use Rattle.bincode_shape.specs.Depth.{deepest, capped_deepest}
use Rattle.bincode_shape.proofs.+depth.Given as goal

abbrev pub invariant-depth::depth_of-loop-part : goal.invariant-depth::depth_of-loop-part
invariant-depth::depth_of-loop-part l =
    (capped_deepest l.parts ≡ min (max l.deepest (deepest (drop l.part-index l.parts))) (2 ^ 64 - 1)) × (l.deepest < 2 ^ 64)
