use Rattle.bincode_types.proofs.scalars.tell_scalar_costs.Goals as goal

pub returns : goal.returns
returns g c = g.met.T.FixedCharge.charges
