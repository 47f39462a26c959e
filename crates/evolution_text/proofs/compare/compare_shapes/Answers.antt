use Rattle.std.proofs.Common.{◌∙◌, sym}
use Rattle.evolution_text.proofs.InAll.{all_read}
use Rattle.evolution_text.proofs.compare.compare_shapes.Goals as goal

pub returns-clause-reads : goal.returns-clause-reads
returns-clause-reads g c = λ h. all_read c.args.settings.now c.args.old.now c.args.new.now (sym c.in_ok-is_read.ensures ∙ h)
