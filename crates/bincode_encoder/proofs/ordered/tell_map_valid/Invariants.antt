use Rattle.std.specs.List.{All}
use Rattle.bincode_encoder.proofs.IterAnswers.{SoFar}
use Rattle.bincode_encoder.proofs.ordered.tell_map_valid.Given as goal

abbrev pub invariant-loop-key : goal.invariant-loop-key
invariant-loop-key g l = SoFar (All (λ e. g.K.Value.Wire.words.valid e.0 × (g.V.Value.Wire.words.valid e.1 × Unit {0}))) l.map.entries l.key-iterator
