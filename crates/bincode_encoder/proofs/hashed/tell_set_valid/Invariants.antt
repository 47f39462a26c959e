use Rattle.std.specs.List.{All}
use Rattle.bincode_encoder.proofs.IterAnswers.{SoFar}
use Rattle.bincode_encoder.proofs.hashed.tell_set_valid.Given as goal

abbrev pub invariant-loop-key : goal.invariant-loop-key
invariant-loop-key g l = SoFar (All g.V.Value.Wire.words.valid) l.set.keys l.key-iterator
