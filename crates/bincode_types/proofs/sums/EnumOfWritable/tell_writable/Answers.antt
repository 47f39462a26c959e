use Rattle.bincode_types.proofs.sums.EnumOfWritable.tell_writable.Goals as goal

pub returns : goal.returns
returns g c = λ s v h. c.tell_writable.ensures s v.0 h.1
