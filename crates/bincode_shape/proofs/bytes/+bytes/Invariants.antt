use Rattle.std.proofs.Common.{◌≡◌, drop}
use Rattle.std.specs.List.{list_all}
use Rattle.bincode_shape.specs.Counts.{without_bytes}
use Rattle.bincode_shape.proofs.bytes.+bytes.Given as goal

abbrev pub invariant-have_no_bytes-loop-part : goal.invariant-have_no_bytes-loop-part
invariant-have_no_bytes-loop-part l = list_all without_bytes l.parts ≡ list_all without_bytes (drop l.part-index l.parts)
