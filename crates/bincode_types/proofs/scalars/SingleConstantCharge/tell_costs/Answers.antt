use Rattle.std.proofs.Common.{le_refl}
use Rattle.bincode_types.proofs.scalars.SingleConstantCharge.tell_costs.Goals as goal

pub returns-clause-costs : goal.returns-clause-costs
returns-clause-costs g c = g.met.T.FixedCharge.charges

pub returns-clause-fits : goal.returns-clause-fits
returns-clause-fits g c = le_refl _
