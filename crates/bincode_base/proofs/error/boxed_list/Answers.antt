use Rattle.std.proofs.Common.{rules}
use Rattle.bincode_base.proofs.error.boxed_list.Goals as goal

pub returns : goal.returns
returns c = search rules
