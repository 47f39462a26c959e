use Rattle.bincode_encoder.proofs.EncodingAnswers.{piece-encodes}
use Rattle.bincode_encoder.proofs.runs.encode_run.Goals as goal

pub returns-in-Some : goal.returns-in-Some
returns-in-Some g c =
    let write = c.write_from.ensures in
    piece-encodes g.met.E.W.Writer.adds_none (c.in-Some.ensures g.E.C.Config.setting) write.ok write.err write.same_loans
