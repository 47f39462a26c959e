use Rattle.std.proofs.Common.{refl}
use Rattle.bincode_decoder.proofs.Rooms.{refused-some}
use Rattle.bincode_decoder.proofs.texts.zeros.Goals as goal

pub returns-in_default-clause-memory : goal.returns-in_default-clause-memory
returns-in_default-clause-memory c = (refused-some c.args.count c.in_default.ensures.succeeds, refl)
