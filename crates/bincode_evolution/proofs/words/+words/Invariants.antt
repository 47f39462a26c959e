use Rattle.std.proofs.Common.{◌≡◌, drop}
use Rattle.std.specs.List.{list_all}
use Rattle.bincode_evolution.specs.Rules.{has_words}
use Rattle.bincode_evolution.specs.Lists.{any_has_words}
use Rattle.bincode_evolution.proofs.words.+words.Given as goal

abbrev pub invariant-do_all_have_words-loop-shape : goal.invariant-do_all_have_words-loop-shape
invariant-do_all_have_words-loop-shape l = list_all has_words l.shapes ≡ list_all has_words (drop l.shape-index l.shapes)

abbrev pub invariant-does_some_have_words-loop-shape : goal.invariant-does_some_have_words-loop-shape
invariant-does_some_have_words-loop-shape l = any_has_words l.shapes ≡ any_has_words (drop l.shape-index l.shapes)
