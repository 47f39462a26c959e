use Rattle.bincode_types.proofs.empty.NoVariantsWritable.tell_writable.Goals as goal

pub returns : goal.returns
returns g c = λ s v h. absurd h
