use Rattle.bincode_decoder.proofs.Rooms.{leb-tells}
use Rattle.bincode_decoder.proofs.decoder.charge.is_within.Goals as goal

pub returns-in-Some : goal.returns-in-Some
returns-in-Some c = rw c.in-Some.is (leb-tells _ _)
