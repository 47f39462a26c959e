use Rattle.bincode_types.proofs.sums.NoMoreVariantsCanonicalVariants.tell_canonical.Goals as goal

pub returns : goal.returns
returns g c = λ s v w h. absurd h
