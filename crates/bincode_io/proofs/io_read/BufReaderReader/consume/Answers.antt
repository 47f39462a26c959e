use Rattle.std.proofs.Common.{rules}
use Rattle.bincode_io.proofs.io_read.BufReaderReader.consume.Goals as goal

pub returns : goal.returns
returns g c = search rules
