use Rattle.std.proofs.Common.{List}
use Rattle.bincode_collections.proofs.Reading.{RunSoFar}
use Rattle.bincode_collections.proofs.sets_and_maps.decode_items.Given as goal

abbrev pub invariant-loop : goal.invariant-loop
invariant-loop g l =
    (items : List g.row.V-Value.Denot)
    × g.M.InsertAll.makes items (g.M.InsertAll.held_items l.filling)
    × RunSoFar g.D.Decoder.is_known g.D.Decoder.remaining g.D.Decoder.charge g.D.Decoder.failures g.D.Decoder.loans g.D.C.Config.bound g.V.Value.Wire.words.claim
    (g.V.Value.Wire.words.format g.D.C.Config.setting) g.V.Value.Wire.words.decodes_to l.fn.len l.counter items l.fn.decoder l.decoder
