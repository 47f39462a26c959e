use Rattle.bincode_types.proofs.impls.floats.F32Writable.tell_writable.Goals as goal

pub returns : goal.returns
returns c = λ s v h. tt
