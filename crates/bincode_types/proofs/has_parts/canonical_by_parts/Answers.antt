use Rattle.bincode_types.proofs.has_parts.canonical_by_parts.Goals as goal

pub returns : goal.returns
returns g c = λ s v w. c.tell_canonical.ensures s (g.T.HasParts.parts v) (g.T.HasParts.parts w)
