use Rattle.bincode_types.proofs.scalars.tell_scalar_writable.Goals as goal

pub returns : goal.returns
returns g c = λ s v h. tt
