use Rattle.std.proofs.Common.{◌↔◌, IsTrue, subst, sym}
use Rattle.bincode_shape.specs.Shapes.{format_of}
use Rattle.bincode_evolution.specs.Reading.{WordOf}
use Rattle.bincode_evolution.proofs.Inhabited.{words_exact}
use Rattle.bincode_evolution.proofs.evolution.has_words.Goals as goal

pub returns-clause-exact : goal.returns-clause-exact
returns-clause-exact c = λ s. subst (λ b. IsTrue b ↔ WordOf (format_of c.args.shape.now s)) (sym c.does_have_words.ensures) (words_exact c.args.shape.now s)
