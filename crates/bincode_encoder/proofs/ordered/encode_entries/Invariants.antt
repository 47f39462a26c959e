use Rattle.std.proofs.Common.{◌≡◌}
use Rattle.bincode_spec.specs.Meaning.{IsThen, IsNothing}
use Rattle.bincode_spec.specs.Words.{first_and, nothing}
use Rattle.bincode_encoder.proofs.IterAnswers.{WrittenSoFar}
use Rattle.bincode_encoder.proofs.ordered.encode_entries.Given as goal

abbrev pub invariant-loop-key : goal.invariant-loop-key
invariant-loop-key g l =
    let s = g.E.C.Config.setting in
    WrittenSoFar g.E.W.Writer.adds (λ e. IsThen (g.K.Value.Wire.words.means e.0) (IsThen (g.V.Value.Wire.words.means e.1) IsNothing))
    (first_and (g.K.Value.Wire.words.format s) (first_and (g.V.Value.Wire.words.format s) nothing)) l.map.entries l.key-iterator
    (g.E.Encoder.writer_of l.fn.encoder) (g.E.Encoder.writer_of l.encoder)
    × (g.E.Encoder.loans l.encoder ≡ g.E.Encoder.loans l.fn.encoder)
