use Rattle.bincode_lemmas.specs.CharLaws.{character-allows}
use Rattle.bincode_lemmas.specs.EncodingLaws.{ready_word}
use Rattle.bincode_encoder.proofs.EncodingAnswers.{piece-encodes}
use Rattle.bincode_encoder.proofs.chars.write_char.Goals as goal

pub returns : goal.returns
returns g c =
    let write = c.write_from.ensures in
    piece-encodes g.met.E.W.Writer.adds_none (ready_word _ _ (rw c.requires.bytes (character-allows c.args.code c.requires.scalar))) write.ok write.err write.same_loans
