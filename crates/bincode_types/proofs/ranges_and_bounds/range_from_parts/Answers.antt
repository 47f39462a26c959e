use Rattle.std.proofs.Common.{rules}
use Rattle.bincode_types.proofs.ranges_and_bounds.range_from_parts.Goals as goal

pub returns : goal.returns
returns g c = search rules
