use Rattle.std.specs.Int.{w8}
use Rattle.std.proofs.lemmas.Int.{to_z-of_z}
use Rattle.bincode_lemmas.specs.IntegerLaws.{FitsIn-from_signed}
use Rattle.bincode_lemmas.specs.AllowedLaws.{signed_byte-allows}
use Rattle.bincode_lemmas.specs.EncodingLaws.{ready_word}
use Rattle.bincode_encoder.proofs.EncodingAnswers.{piece-encodes}
use Rattle.bincode_encoder.proofs.integers.encode_signed_byte.Goals as goal

pub returns : goal.returns
returns g c =
    let write = rw (c.byte_of_i8.ensures, to_z-of_z w8 c.args.val c.requires) at c.write_from.ensures in
    piece-encodes g.met.E.W.Writer.adds_none (ready_word _ _ (signed_byte-allows c.args.val (FitsIn-from_signed w8 c.args.val c.requires))) write.ok write.err write.same_loans
