use Rattle.std.proofs.Common.{◌≡◌, length}
use Rattle.std.specs.Vec.{vec_len, vec_capacity}
use Rattle.bincode_collections.proofs.Reading.{RunSoFar}
use Rattle.bincode_collections.proofs.runs.decode_by_pushes.Given as goal

abbrev pub invariant-loop : goal.invariant-loop
invariant-loop g l =
    RunSoFar g.D.Decoder.is_known g.D.Decoder.remaining g.D.Decoder.charge g.D.Decoder.failures g.D.Decoder.loans g.D.C.Config.bound g.V.Value.Wire.words.claim
    (g.V.Value.Wire.words.format g.D.C.Config.setting) g.V.Value.Wire.words.decodes_to l.fn.len l.counter l.values.items l.fn.decoder l.decoder
    × (length l.values.items ≡ l.counter)
    × (vec_len l.values ≡ l.counter)
    × (vec_capacity l.values ≡ l.fn.len)
