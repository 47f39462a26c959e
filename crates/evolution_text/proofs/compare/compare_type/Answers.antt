use Rattle.evolution_text.proofs.InAll.{type_answer_of, type_reads}
use Rattle.evolution_text.proofs.compare.compare_type.Goals as goal

pub returns-in-Some-clause-by_rules : goal.returns-in-Some-clause-by_rules
returns-in-Some-clause-by_rules g c =
    type_answer_of g.New.Wire.words c.args.old.now c.args.settings.now c.in-Some.new c.in_ok-old.old c.compare_shapes.result c.in-Some.ensures.described c.in_ok-old.ensures c.compare_shapes.ensures.by_rules

pub returns-in-Some-clause-reads : goal.returns-in-Some-clause-reads
returns-in-Some-clause-reads g c =
    type_reads g.New.Wire.words c.args.old.now c.args.settings.now c.in-Some.new c.in_ok-old.old c.compare_shapes.result c.in-Some.ensures.described c.in_ok-old.ensures c.compare_shapes.ensures.reads
