use Rattle.std.specs.Prelude.{[]}
use Rattle.crc32c.proofs.checksum.Goals as goal

pub returns : goal.returns
returns c = c.value.ensures c.args.message.now (c.update.ensures [] c.new-check.ensures)
