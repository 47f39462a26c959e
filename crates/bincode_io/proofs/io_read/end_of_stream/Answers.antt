use Rattle.std.proofs.Common.{refl}
use Rattle.bincode_io.proofs.io_read.end_of_stream.Goals as goal

pub returns-clause-io : goal.returns-clause-io
returns-clause-io c = (_, _, refl)
