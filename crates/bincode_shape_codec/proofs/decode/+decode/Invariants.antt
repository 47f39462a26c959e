use Rattle.std.proofs.Common.{◌≡◌, length, drop}
use Rattle.std.specs.Vec.{vec_len, vec_capacity}
use Rattle.bincode_shape.specs.Shapes.{format_of, IsImage}
use Rattle.bincode_collections.proofs.Reading.{RunSoFar}
use Rattle.bincode_shape_codec.proofs.Parts.{PartsSoFar}
use Rattle.bincode_shape_codec.proofs.decode.+decode.Given as goal

abbrev pub invariant-decode_elements-loop : goal.invariant-decode_elements-loop
invariant-decode_elements-loop g l =
    RunSoFar g.D.Decoder.is_known g.D.Decoder.remaining g.D.Decoder.charge g.D.Decoder.failures g.D.Decoder.loans g.D.C.Config.bound l.fn.claim
    (format_of l.fn.element g.D.C.Config.setting) (IsImage l.fn.element) l.fn.len l.counter l.values.items l.fn.decoder l.decoder
    × (length l.values.items ≡ l.counter)
    × (vec_len l.values ≡ l.counter)
    × (vec_capacity l.values ≡ l.fn.len)

abbrev pub invariant-decode_parts-loop-part : goal.invariant-decode_parts-loop-part
invariant-decode_parts-loop-part g l =
    PartsSoFar g.D.Decoder.is_known g.D.Decoder.remaining g.D.Decoder.charge g.D.Decoder.failures g.D.Decoder.loans g.D.C.Config.bound g.D.C.Config.setting
    l.fn.parts (drop l.part-index l.fn.parts) l.values.items l.fn.decoder l.decoder
    × (vec_len l.values ≡ l.part-index)
    × (vec_capacity l.values ≡ length l.fn.parts)
