use Rattle.bincode_types.proofs.has_parts.writable_by_parts.Goals as goal

pub returns : goal.returns
returns g c = λ s v. c.tell_writable.ensures s (g.T.HasParts.parts v)
