use Rattle.std.proofs.Common.{refl}
use Rattle.bincode_types.proofs.impls.numbers.U32Scalar.SIZE.Goals as goal

pub returns : goal.returns
returns c = refl
