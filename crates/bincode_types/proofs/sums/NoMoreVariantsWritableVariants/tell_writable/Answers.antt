use Rattle.bincode_types.proofs.sums.NoMoreVariantsWritableVariants.tell_writable.Goals as goal

pub returns : goal.returns
returns g c = λ s v h. absurd h
