use Rattle.bincode_types.proofs.by_parts.AnyWritable.tell_writable.Goals as goal

pub returns : goal.returns
returns g c = λ s v. c.tell_writable.ensures s (g.T.ByParts.parts v)
