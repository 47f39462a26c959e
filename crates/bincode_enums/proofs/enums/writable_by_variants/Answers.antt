use Rattle.bincode_enums.proofs.enums.writable_by_variants.Goals as goal

pub returns : goal.returns
returns g c = g.met.T.Enum.laws.writable c.requires
