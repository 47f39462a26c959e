use Rattle.std.proofs.Common.{rules}
use Rattle.bincode.proofs.Through.{through}
use Rattle.bincode.proofs.short_slice.encode_through.Goals as goal

pub returns : goal.returns
returns g c = through _ _ _ _ _ _ _ _ _ _ (search rules) c.encode_with.ensures
