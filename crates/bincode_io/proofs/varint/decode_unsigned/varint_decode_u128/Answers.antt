use Rattle.bincode_io.proofs.varint.decode_unsigned.varint_decode_u128.Goals as goal

pub returns : goal.returns
returns g c = c.varint_decode.ensures.word
