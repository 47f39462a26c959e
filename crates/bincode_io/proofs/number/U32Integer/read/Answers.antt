use Rattle.bincode_io.proofs.number.U32Integer.read.Goals as goal

pub returns-in-Variable : goal.returns-in-Variable
returns-in-Variable g c = rw c.in-Variable.is c.varint_decode_u32.ensures

pub returns-in-Fixed : goal.returns-in-Fixed
returns-in-Fixed g c = rw c.in-Fixed.is c.read_u32.ensures
