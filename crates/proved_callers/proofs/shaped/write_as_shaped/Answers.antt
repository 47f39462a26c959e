use Rattle.bincode_shape.specs.Rows.{AllowsImage}
use Rattle.proved_callers.specs.Shaped.{AllowsEachValue}
use Rattle.proved_callers.proofs.ReadShaped.{image-allowed, writes-also}
use Rattle.proved_callers.proofs.shaped.write_as_shaped.Goals as goal

pub returns : goal.returns
returns g c = λ fit.
    let s = g.C.Config.setting in
    let shape = c.args.shape.now in
    let image = c.args.image.now in
    writes-also g.W.Writer.adds (AllowsImage s shape image) (AllowsEachValue s g.T.Wire.words image) c.args.writer.now c.encode_shaped.new.writer
    (image-allowed g.T.Wire.words shape s (c.requires s) image) c.encode_shaped.result (c.encode_shaped.ensures.word fit)
