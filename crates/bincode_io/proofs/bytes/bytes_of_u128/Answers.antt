use Rattle.std.proofs.Common.{◌∙◌}
use Rattle.bincode_io.proofs.StdBytes.{low_first-std, high_first-std}
use Rattle.bincode_io.proofs.bytes.bytes_of_u128.Goals as goal

pub returns-in-Little : goal.returns-in-Little
returns-in-Little c = rw c.in-Little.is (c.to_le_bytes.ensures ∙ low_first-std 16 c.args.n)

pub returns-in-Big : goal.returns-in-Big
returns-in-Big c = rw c.in-Big.is (c.to_be_bytes.ensures ∙ high_first-std 16 c.args.n)
