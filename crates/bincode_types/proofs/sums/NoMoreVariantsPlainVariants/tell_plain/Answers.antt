use Rattle.bincode_types.proofs.sums.NoMoreVariantsPlainVariants.tell_plain.Goals as goal

pub returns-clause-always_writable : goal.returns-clause-always_writable
returns-clause-always_writable g c = λ s v h. absurd h

pub returns-clause-one_length : goal.returns-clause-one_length
returns-clause-one_length g c = λ s v h. absurd h

pub returns-clause-names_none : goal.returns-clause-names_none
returns-clause-names_none g c = λ e h. h
