use Rattle.proved_callers.proofs.ReadShaped.{reads-alike}
use Rattle.proved_callers.proofs.shaped.read_as_shaped.Goals as goal

pub returns-clause-alike : goal.returns-clause-alike
returns-clause-alike g c =
    let a = c.decode_from_slice-by_type.ensures in
    let b = c.decode_shaped-by_shape.ensures.answer in
    reads-alike g.T.Wire.words c.in_ok-shape.shape g.C.Config.setting (c.in_ok-shape.ensures.described g.C.Config.setting) g.C.Config.bound c.args.src.now
    c.decode_from_slice-by_type.result c.decode_shaped-by_shape.result
    a
    b
