use Rattle.std.proofs.Common.{◌≡◌, List, length, map, take, Some}
use Rattle.bincode_collections.proofs.Reading.{RunSoFar}
use Rattle.bincode_collections.proofs.arrays.decode_slots.Given as goal

abbrev pub invariant-loop-index : goal.invariant-loop-index
invariant-loop-index g l =
    (vs : List g.row.V-Value.Denot)
    × (take l.index l.slots ≡ map Some vs)
    × RunSoFar g.D.Decoder.is_known g.D.Decoder.remaining g.D.Decoder.charge g.D.Decoder.failures g.D.Decoder.loans g.D.C.Config.bound g.V.Value.Wire.words.claim
    (g.V.Value.Wire.words.format g.D.C.Config.setting) g.V.Value.Wire.words.decodes_to (length l.fn.slots) l.index vs l.fn.decoder l.decoder
