use Rattle.bincode_types.proofs.empty.NoVariantsCanonical.tell_canonical.Goals as goal

pub returns : goal.returns
returns g c = λ s v w h. absurd h
