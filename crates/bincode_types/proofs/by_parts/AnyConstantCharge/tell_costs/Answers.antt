use Rattle.bincode_types.proofs.by_parts.AnyConstantCharge.tell_costs.Goals as goal

pub returns-clause-costs : goal.returns-clause-costs
returns-clause-costs g c = c.tell_costs.ensures.costs

pub returns-clause-fits : goal.returns-clause-fits
returns-clause-fits g c = c.tell_costs.ensures.fits
