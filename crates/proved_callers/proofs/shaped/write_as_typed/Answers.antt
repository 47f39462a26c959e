use Rattle.bincode_spec.specs.Allowed.{AllowedWord}
use Rattle.proved_callers.specs.Shaped.{AllowsEachImage}
use Rattle.proved_callers.proofs.ReadShaped.{value-allowed, writes-also}
use Rattle.proved_callers.proofs.shaped.write_as_typed.Goals as goal

pub returns : goal.returns
returns g c =
    let s = g.C.Config.setting in
    let shape = c.args.shape.now in
    let value = c.args.value.now in
    let W = g.T.Wire.words in
    writes-also g.W.Writer.adds (AllowedWord (W.means value) (W.format s)) (AllowsEachImage s W shape value) c.args.writer.now c.encode_into_writer.new.writer
    (value-allowed W shape s (c.requires s) value) c.encode_into_writer.result c.encode_into_writer.ensures.word
