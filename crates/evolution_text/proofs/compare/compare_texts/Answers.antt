use Rattle.evolution_text.proofs.InAll.{answer_of}
use Rattle.evolution_text.proofs.compare.compare_texts.Goals as goal

pub returns : goal.returns
returns g c =
    answer_of c.args.new.now c.args.old.now c.args.settings.now c.in_ok-new.new c.in_ok-old.old c.compare_shapes.result c.in_ok-new.ensures c.in_ok-old.ensures c.compare_shapes.ensures.by_rules
    c.compare_shapes.ensures.reads
