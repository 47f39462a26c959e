use Rattle.std.specs.Float.{binary32}
use Rattle.std.proofs.Common.{le_refl}
use Rattle.bincode_lemmas.specs.FloatLaws.{float-costs}
use Rattle.bincode_types.proofs.impls.floats.F32ConstantCharge.tell_costs.Goals as goal

pub returns-clause-costs : goal.returns-clause-costs
returns-clause-costs c = float-costs binary32

pub returns-clause-fits : goal.returns-clause-fits
returns-clause-fits c = le_refl 4
