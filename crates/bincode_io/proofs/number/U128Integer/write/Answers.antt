use Rattle.bincode_io.proofs.Words.{pieces-fixed}
use Rattle.bincode_io.proofs.number.U128Integer.write.Goals as goal

pub returns-in-Variable : goal.returns-in-Variable
returns-in-Variable g c = rw c.in-Variable.is c.varint_encode_u128.ensures

pub returns-in-Fixed : goal.returns-in-Fixed
returns-in-Fixed g c = pieces-fixed g.met.W.Writer.adds_none c.in-Fixed.is _ _ _ c.bytes_of_u128.ensures c.write.ensures.piece
