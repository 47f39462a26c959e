use Rattle.bincode_enums.proofs.enums.exact_by_variants.Goals as goal

pub returns : goal.returns
returns g c = g.met.T.Enum.laws.exact g.T.PartialEq.eq c.requires
