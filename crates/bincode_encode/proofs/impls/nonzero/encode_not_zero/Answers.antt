use Rattle.bincode_encoder.proofs.EncodingAnswers.{not_zero-encodes}
use Rattle.bincode_encode.proofs.impls.nonzero.encode_not_zero.Goals as goal

pub returns : goal.returns
returns g c =
    let spelling = g.T.Integer.spelling in
    not_zero-encodes spelling.integer g.T.Integer.spelling_laws.one spelling.size _ _ c.requires.nonzero c.encode_integer.ensures
