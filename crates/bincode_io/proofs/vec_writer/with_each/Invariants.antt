use Rattle.std.proofs.Common.{◌≡◌, ◌++◌}
use Rattle.std.specs.Vec.{vec_capacity}
use Rattle.std.specs.Prelude.{take}
use Rattle.bincode_io.proofs.vec_writer.with_each.Given as goal

abbrev pub invariant-loop-byte : goal.invariant-loop-byte
invariant-loop-byte l = (l.held.items ≡ l.fn.held.items ++ take l.byte-index l.fn.bytes) × (vec_capacity l.held ≡ vec_capacity l.fn.held)
