use Rattle.std.proofs.Common.{le_refl}
use Rattle.bincode_lemmas.specs.CostLaws.{duration-costs}
use Rattle.bincode_types.proofs.impls.time.DurationConstantCharge.tell_costs.Goals as goal

pub returns-clause-costs : goal.returns-clause-costs
returns-clause-costs c = duration-costs

pub returns-clause-fits : goal.returns-clause-fits
returns-clause-fits c = le_refl 12
