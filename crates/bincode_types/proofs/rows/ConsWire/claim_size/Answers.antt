use Rattle.std.proofs.Common.{arith}
use Rattle.bincode_types.proofs.rows.ConsWire.claim_size.Goals as goal

pub returns : goal.returns
returns g c = grind arith
