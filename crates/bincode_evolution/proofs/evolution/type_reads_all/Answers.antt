use Rattle.bincode_evolution.proofs.Types.{described_reads}
use Rattle.bincode_evolution.proofs.evolution.type_reads_all.Goals as goal

pub returns-clause-by_rules : goal.returns-clause-by_rules
returns-clause-by_rules g c = (c.in_ok-new.new, c.in_ok-old.old, c.in_ok-new.ensures.described, c.in_ok-old.ensures.described, c.reads_all.ensures.by_rules)

pub returns-clause-reads : goal.returns-clause-reads
returns-clause-reads g c = λ h. described_reads (c.in_ok-old.ensures.described g.C.Config.setting) (c.in_ok-new.ensures.described g.C.Config.setting) (c.reads_all.ensures.reads h)
