use Rattle.bincode_types.proofs.sums.NoMoreVariantsExactVariants.tell_exact.Goals as goal

pub returns-clause-one_value : goal.returns-clause-one_value
returns-clause-one_value g c = λ v w m h. absurd h

pub returns-clause-comes_back : goal.returns-clause-comes_back
returns-clause-comes_back g c = λ v w m h. absurd h
