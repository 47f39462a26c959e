use Rattle.bincode_decoder.proofs.Rooms.{unclaimed-some}
use Rattle.bincode_decoder.proofs.decoder.charge.unclaim.Goals as goal

pub returns-then-is_some : goal.returns-then-is_some
returns-then-is_some c = unclaimed-some c.args.limit _ _ c.if-is_some.ensures
