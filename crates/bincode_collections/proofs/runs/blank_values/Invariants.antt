use Rattle.std.proofs.Common.{◌≡◌, length}
use Rattle.std.specs.Vec.{vec_len, vec_capacity}
use Rattle.bincode_collections.proofs.runs.blank_values.Given as goal

abbrev pub invariant-loop : goal.invariant-loop
invariant-loop g l = (length l.values.items ≡ l.counter) × (vec_len l.values ≡ l.counter) × (vec_capacity l.values ≡ l.fn.len)
