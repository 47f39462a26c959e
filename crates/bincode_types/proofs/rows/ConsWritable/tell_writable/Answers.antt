use Rattle.bincode_types.proofs.rows.ConsWritable.tell_writable.Goals as goal

pub returns : goal.returns
returns g c = λ s v h. (c.tell_writable.ensures s v.0 h.0, c.tell_writable-2.ensures s v.1 h.1)
