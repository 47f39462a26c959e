use Rattle.std.proofs.Common.{arith}
use Rattle.crc32c.proofs.Steps.{entry-in}
use Rattle.crc32c.proofs.table.entry_of.Goals as goal

pub returns : goal.returns
returns c = entry-in c.args.table.now c.requires c.args.byte (omega (arith, c.told-table, c.ranges.byte.fits))
