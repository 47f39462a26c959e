use Rattle.bincode_enums.proofs.enums.plain_by_variants.Goals as goal

pub returns : goal.returns
returns g c = g.met.T.Enum.laws.plain c.requires
