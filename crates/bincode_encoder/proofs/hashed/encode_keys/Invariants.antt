use Rattle.std.proofs.Common.{◌≡◌}
use Rattle.bincode_encoder.proofs.IterAnswers.{WrittenSoFar}
use Rattle.bincode_encoder.proofs.hashed.encode_keys.Given as goal

abbrev pub invariant-loop-key : goal.invariant-loop-key
invariant-loop-key g l =
    WrittenSoFar g.E.W.Writer.adds g.V.Value.Wire.words.means (g.V.Value.Wire.words.format g.E.C.Config.setting) l.set.keys l.key-iterator
    (g.E.Encoder.writer_of l.fn.encoder) (g.E.Encoder.writer_of l.encoder)
    × (g.E.Encoder.loans l.encoder ≡ g.E.Encoder.loans l.fn.encoder)
