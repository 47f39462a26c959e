use Rattle.bincode_types.proofs.impls.cells.RefCellWritable.tell_writable.Goals as goal

pub returns : goal.returns
returns g c = λ s v h. record { some_word = c.tell_inhabited.ensures s; each_writable = c.tell_writable.ensures s }
