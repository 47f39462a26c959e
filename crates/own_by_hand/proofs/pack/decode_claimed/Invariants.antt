use Rattle.std.proofs.Common.{◌≡◌, ◌≤◌}
use Rattle.std.specs.Vec.{vec_len, vec_capacity}
use Rattle.bincode_collections.proofs.Reading.{RunSoFar}
use Rattle.own_by_hand.proofs.pack.decode_claimed.Given as goal

abbrev pub invariant-loop : goal.invariant-loop
invariant-loop g l =
    RunSoFar g.D.Decoder.is_known g.D.Decoder.remaining g.D.Decoder.charge g.D.Decoder.failures g.D.Decoder.loans g.D.C.Config.bound g.T.Wire.words.claim
    (g.T.Wire.words.format g.D.C.Config.setting) g.T.Wire.words.decodes_to l.fn.len l.counter l.items.items l.fn.decoder l.decoder
    × (vec_len l.items ≡ l.counter)
    × (l.fn.len ≤ vec_capacity l.items)
