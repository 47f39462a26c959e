use Rattle.std.proofs.Common.{le_refl}
use Rattle.bincode_lemmas.specs.OctetLaws.{octets-costs}
use Rattle.bincode_types.proofs.octets.OctetsConstantCharge.tell_costs.Goals as goal

pub returns-clause-costs : goal.returns-clause-costs
returns-clause-costs g c = λ s. octets-costs g.row.N

pub returns-clause-fits : goal.returns-clause-fits
returns-clause-fits g c = le_refl g.row.N
