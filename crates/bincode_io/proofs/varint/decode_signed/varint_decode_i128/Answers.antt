use Rattle.bincode_io.proofs.varint.decode_signed.varint_decode_i128.Goals as goal

pub returns : goal.returns
returns g c = c.varint_decode_signed.ensures.word
