use Rattle.crc32c.proofs.Steps.{by-table}
use Rattle.crc32c.proofs.next_state.Goals as goal

pub returns : goal.returns
returns c = rw c.entry.ensures (by-table c.args.state c.args.byte c.ranges.byte.fits)
