use Rattle.std.proofs.Common.{length, take}
use Rattle.bincode_collections.proofs.Reading.{RunSoFar}
use Rattle.bincode_collections.proofs.runs.decode_each.Given as goal

abbrev pub invariant-loop-index : goal.invariant-loop-index
invariant-loop-index g l =
    RunSoFar g.D.Decoder.is_known g.D.Decoder.remaining g.D.Decoder.charge g.D.Decoder.failures g.D.Decoder.loans g.D.C.Config.bound g.V.Value.Wire.words.claim
    (g.V.Value.Wire.words.format g.D.C.Config.setting) g.V.Value.Wire.words.decodes_to (length l.fn.values) l.index (take l.index l.values) l.fn.decoder l.decoder
