use Rattle.std.specs.Float.{binary32}
use Rattle.bincode_lemmas.specs.EncodingLaws.{ready_word}
use Rattle.bincode_lemmas.specs.FloatLaws.{float-word}
use Rattle.bincode_encoder.proofs.EncodingAnswers.{piece-encodes}
use Rattle.bincode_encoder.proofs.floats.encode_f32.Goals as goal

pub returns : goal.returns
returns g c =
    let word = float-word binary32 g.E.C.Config.setting c.args.val c.well_formed.1.0.1 in
    let write = rw (c.bytes_of_u32.ensures, c.endianness-endian.ensures, c.f32_to_bits_with_nan-bits.ensures) at c.write_from.ensures in
    piece-encodes g.met.E.W.Writer.adds_none (ready_word _ _ word) write.ok write.err write.same_loans
