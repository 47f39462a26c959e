use Rattle.std.proofs.Common.{rules}
use Rattle.bincode_lemmas.specs.OctetLaws.{octets-allow}
use Rattle.bincode_lemmas.specs.EncodingLaws.{ready_word}
use Rattle.bincode_encoder.proofs.EncodingAnswers.{piece-encodes}
use Rattle.bincode_encoder.proofs.octets.encode_octets.Goals as goal

pub returns : goal.returns
returns g c =
    let write = c.write_from.ensures in
    piece-encodes g.met.E.W.Writer.adds_none (ready_word _ _ (octets-allow g.row.N c.args.val.now (search rules))) write.ok write.err write.same_loans
