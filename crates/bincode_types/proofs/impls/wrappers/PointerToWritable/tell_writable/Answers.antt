use Rattle.bincode_types.proofs.impls.wrappers.PointerToWritable.tell_writable.Goals as goal

pub returns : goal.returns
returns g c = λ s v. c.tell_writable.ensures s v.to
