use Rattle.bincode_lemmas.specs.AllowedLaws.{byte-allows}
use Rattle.bincode_lemmas.specs.EncodingLaws.{ready_word}
use Rattle.bincode_encoder.proofs.EncodingAnswers.{piece-encodes}
use Rattle.bincode_encoder.proofs.integers.encode_byte.Goals as goal

pub returns : goal.returns
returns g c =
    let write = c.write_from.ensures in
    piece-encodes g.met.E.W.Writer.adds_none (ready_word _ _ (byte-allows _)) write.ok write.err write.same_loans
