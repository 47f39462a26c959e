use Rattle.std.proofs.Common.{arith}
use Rattle.bincode_lemmas.specs.CostLaws.{then-costs}
use Rattle.bincode_types.proofs.rows.ConsConstantCharge.tell_costs.Goals as goal

pub returns-clause-costs : goal.returns-clause-costs
returns-clause-costs g c = λ s. then-costs (c.tell_costs.ensures.costs s) (c.tell_costs-2.ensures.costs s)

pub returns-clause-fits : goal.returns-clause-fits
returns-clause-fits g c = omega (arith, c.tell_costs-2.ensures.fits)
