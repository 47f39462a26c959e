use Rattle.std.proofs.Common.{◌≡◌, take}
use Rattle.bincode_spec.specs.Allowed.{AllowedWord}
use Rattle.bincode_lemmas.specs.Sequences.{AllowsEach}
use Rattle.bincode_spec.specs.Encoding.{Writes}
use Rattle.bincode_encoder.proofs.runs.encode_each.Given as goal

abbrev pub invariant-loop-item : goal.invariant-loop-item
invariant-loop-item g l =
    Writes g.E.W.Writer.adds (AllowsEach (λ v. AllowedWord (g.V.Value.Wire.words.means v) (g.V.Value.Wire.words.format g.E.C.Config.setting)) (take l.item-index l.items))
    (g.E.Encoder.writer_of l.fn.encoder) (g.E.Encoder.writer_of l.encoder)
    × (g.E.Encoder.loans l.encoder ≡ g.E.Encoder.loans l.fn.encoder)
