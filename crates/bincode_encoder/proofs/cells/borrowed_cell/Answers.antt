use Rattle.std.proofs.Common.{refl}
use Rattle.bincode_encoder.proofs.cells.borrowed_cell.Goals as goal

pub returns : goal.returns
returns c = (_, refl)
