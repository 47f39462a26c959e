use Rattle.std.proofs.Common.{◌≡◌, ℕ, List, drop}
use Rattle.bincode_shape.specs.Shapes.{format_of}
use Rattle.bincode_shape.specs.Counts.{as_u128, IsCounted}
use Rattle.bincode_collections.proofs.Reading.{RunSoFar}
use Rattle.bincode_shape_codec.specs.Counted.{total}
use Rattle.bincode_shape_codec.proofs.Counting.{PartsCounted}
use Rattle.bincode_shape_codec.proofs.measure.+measure.Given as goal

abbrev pub invariant-measure_each-loop : goal.invariant-measure_each-loop
invariant-measure_each-loop g l =
    (ns : List ℕ) × RunSoFar g.D.Decoder.is_known g.D.Decoder.remaining g.D.Decoder.charge g.D.Decoder.failures g.D.Decoder.loans g.D.C.Config.bound l.fn.claim
    (format_of l.fn.element g.D.C.Config.setting) (IsCounted l.fn.element) l.fn.len l.counter ns l.fn.decoder l.decoder
    × (l.count ≡ as_u128 (total ns))

abbrev pub invariant-measure_parts-loop-part : goal.invariant-measure_parts-loop-part
invariant-measure_parts-loop-part g l =
    PartsCounted g.D.Decoder.is_known g.D.Decoder.remaining g.D.Decoder.charge g.D.Decoder.failures g.D.Decoder.loans g.D.C.Config.bound g.D.C.Config.setting
    l.fn.parts (drop l.part-index l.fn.parts) l.count l.fn.decoder l.decoder
