use Rattle.std.proofs.Common.{take}
use Rattle.std.specs.List.{All}
use Rattle.bincode_encoder.proofs.runs.tell_each_valid.Given as goal

abbrev pub invariant-loop-value : goal.invariant-loop-value
invariant-loop-value g l = All g.V.Value.Wire.words.valid (take l.value-index l.items)
