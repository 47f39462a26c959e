use Rattle.bincode_enums.proofs.enums.canonical_by_variants.Goals as goal

pub returns : goal.returns
returns g c = g.met.T.Enum.laws.canonical c.requires
