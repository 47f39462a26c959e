use Rattle.std.proofs.Common.{◌≡◌}
use Rattle.std.specs.Vec.{vec_len, vec_capacity}
use Rattle.bincode_decoder.proofs.texts.zeros.Given as goal

abbrev pub invariant-loop : goal.invariant-loop
invariant-loop l = (vec_len l.bytes ≡ l.counter) × (vec_capacity l.bytes ≡ l.count)
