use Rattle.std.proofs.Common.{arith, max}
use Rattle.std.proofs.Math.Nat.{mul-le-mul_left}
use Rattle.bincode_lemmas.specs.CostLaws.{array-costs}
use Rattle.bincode_types.proofs.impls.arrays.ArrayConstantCharge.tell_costs.Goals as goal

pub returns-clause-costs : goal.returns-clause-costs
returns-clause-costs g c = λ s.
    array-costs (g.T.Wire.words.format s) g.row.N g.T.Wire.words.claim g.T.ConstantCharge.peak g.T.ConstantCharge.cost (max g.T.Wire.words.claim g.T.ConstantCharge.peak) (omega arith) (omega arith) (omega (arith, c.tell_costs.ensures.fits)) (c.tell_costs.ensures.costs s)

pub returns-clause-fits : goal.returns-clause-fits
returns-clause-fits g c = mul-le-mul_left g.row.N (omega (arith, c.tell_costs.ensures.fits))
