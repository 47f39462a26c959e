use Rattle.std.proofs.Common.{rules}
use Rattle.bincode_io.proofs.size_writer.SizeWriterWriter.write.Goals as goal

pub returns : goal.returns
returns c = search rules
