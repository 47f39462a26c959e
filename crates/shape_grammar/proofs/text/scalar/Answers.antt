use Rattle.std.proofs.Common.{sym}
use Rattle.shape_grammar.specs.Grammar.{name}
use Rattle.shape_grammar.proofs.text.scalar.Goals as goal

pub returns-in-Some-clause-spelled : goal.returns-in-Some-clause-spelled
returns-in-Some-clause-spelled c = name c.word.result.now _ _ _ c.word.ensures (sym c.in-Some.ensures)
