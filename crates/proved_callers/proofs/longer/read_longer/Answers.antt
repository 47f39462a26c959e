use Rattle.proved_callers.proofs.MoreBytes.{same-longer, front-cut}
use Rattle.proved_callers.proofs.longer.read_longer.Goals as goal

pub returns-clause-same : goal.returns-clause-same
returns-clause-same g c =
    let a = c.decode_from_slice-front.ensures in
    let b = c.decode_from_slice-whole.ensures in
    same-longer _ (g.T.Wire.words.lawful _) (g.T.Wire.words.balanced _) _ _ _ c.args.bytes.now c.args.count _ _
    a
    b

pub returns-clause-cut : goal.returns-clause-cut
returns-clause-cut g c =
    let a = c.decode_from_slice-front.ensures in
    let b = c.decode_from_slice-whole.ensures in
    front-cut _ (g.T.Wire.words.lawful _) (g.T.Wire.words.balanced _) _ _ _ c.args.bytes.now c.args.count c.requires _ _
    a
    b
