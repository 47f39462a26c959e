use Rattle.std.proofs.Common.{arith}
use Rattle.std.proofs.lemmas.Grind.{common_steps}
use Rattle.bincode_evolution.specs.Lists.{all-vec, some-vec}
use Rattle.bincode_evolution.proofs.words.+words.Goals as goal

pub does_have_words-returns-in-Tuple : goal.does_have_words-returns-in-Tuple
does_have_words-returns-in-Tuple t c =
    let h = rw c.deref-in-Tuple.ensures.value at c.do_all_have_words.ensures in
    rw (c.in-Tuple.is, all-vec c.in-Tuple.parts) h

pub does_have_words-returns-in-Choice : goal.does_have_words-returns-in-Choice
does_have_words-returns-in-Choice t c =
    let h = rw c.deref-in-Choice.ensures.value at c.does_some_have_words.ensures in
    rw (c.in-Choice.is, some-vec c.in-Choice.parts) h

pub do_all_have_words-returns : goal.do_all_have_words-returns
do_all_have_words-returns t c = grind (arith, common_steps)

pub does_some_have_words-returns : goal.does_some_have_words-returns
does_some_have_words-returns t c = grind (arith, common_steps)
