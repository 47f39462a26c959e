use Rattle.std.proofs.Common.{refl}
use Rattle.bincode_io.proofs.read.SliceReader.new.Goals as goal

pub returns : goal.returns
returns c = refl
