use Rattle.std.proofs.Common.{refl}
use Rattle.bincode_io.proofs.write.SliceWriter.new.Goals as goal

pub returns : goal.returns
returns c = record { loans = refl; bytes = refl; start = refl }
