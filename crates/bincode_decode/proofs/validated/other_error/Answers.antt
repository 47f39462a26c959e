use Rattle.std.proofs.Common.{refl}
use Rattle.bincode_spec.specs.Fault.{short}
use Rattle.bincode_decode.proofs.validated.other_error.Goals as goal

pub returns : goal.returns
returns c = short _ refl (c.new.ensures.whole c.requires)
