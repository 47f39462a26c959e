use Rattle.std.proofs.Common.{sym, length-drop}
use Rattle.bincode_io.proofs.read.SliceReader.bytes_left.Goals as goal

pub returns : goal.returns
returns c = sym (length-drop c.args.self.now.taken c.args.self.now.slice.now)
