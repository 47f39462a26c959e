use Rattle.std.specs.Int.{w16}
use Rattle.std.proofs.lemmas.Int.{to_z-of_z}
use Rattle.bincode_io.proofs.Words.{pieces-fixed_signed}
use Rattle.bincode_io.proofs.number.I16Integer.write.Goals as goal

pub returns-in-Variable : goal.returns-in-Variable
returns-in-Variable g c = rw c.in-Variable.is (rw (to_z-of_z w16 c.args.self c.ranges.self) at c.varint_encode_i16.ensures)

pub returns-in-Fixed : goal.returns-in-Fixed
returns-in-Fixed g c = pieces-fixed_signed g.met.W.Writer.adds_none c.in-Fixed.is _ _ _ _ c.ranges.self c.bytes_of_i16.ensures c.write.ensures.piece
