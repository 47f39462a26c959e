use Rattle.std.proofs.Common.{◌≡◌, true, take, drop}
use Rattle.std.specs.List.{list_all}
use Rattle.bincode_spec.specs.Encoding.{Writes}
use Rattle.bincode_lemmas.specs.Sequences.{AllowsEach}
use Rattle.bincode_shape.specs.Shapes.{fits, each_passes}
use Rattle.bincode_shape.specs.Rows.{tests, AllowsImage, AllowsImages}
use Rattle.bincode_shape_codec.proofs.Writing.{WritesSome}
use Rattle.bincode_shape_codec.proofs.encode.+encode.Given as goal

abbrev pub invariant-encode_items-loop-item : goal.invariant-encode_items-loop-item
invariant-encode_items-loop-item g l =
    Writes g.E.W.Writer.adds (AllowsEach (AllowsImage g.E.C.Config.setting l.element) (take l.item-index l.items)) (g.E.Encoder.writer_of l.fn.encoder) (g.E.Encoder.writer_of l.encoder)
    × (g.E.Encoder.loans l.encoder ≡ g.E.Encoder.loans l.fn.encoder)
    × (list_all (fits l.element) (drop l.item-index l.items) ≡ true)

abbrev pub invariant-encode_parts-loop-index : goal.invariant-encode_parts-loop-index
invariant-encode_parts-loop-index g l =
    WritesSome g.E.W.Writer.adds (AllowsImages g.E.C.Config.setting (drop l.index l.parts) (drop l.index l.items)) (AllowsImages g.E.C.Config.setting l.parts l.items)
    (g.E.Encoder.writer_of l.fn.encoder) (g.E.Encoder.writer_of l.encoder)
    × (g.E.Encoder.loans l.encoder ≡ g.E.Encoder.loans l.fn.encoder)
    × (each_passes (tests (drop l.index l.parts)) (drop l.index l.items) ≡ true)
