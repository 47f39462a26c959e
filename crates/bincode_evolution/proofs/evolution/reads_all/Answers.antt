use Rattle.std.proofs.Common.{sym, ◌∙◌, ap}
use Rattle.bincode_evolution.specs.Rules.{is_read}
use Rattle.bincode_evolution.proofs.Exact.{clear-exact}
use Rattle.bincode_evolution.proofs.Sound.{shape_reads}
use Rattle.bincode_evolution.proofs.evolution.reads_all.Goals as goal

pub returns-clause-reads : goal.returns-clause-reads
returns-clause-reads g c =
    λ h.
    shape_reads c.args.old.now g.C.Config.setting c.args.new.now
    (sym (c.compare.ensures.is_read ∙ ap (λ e. is_read e c.args.old.now c.args.new.now) c.int_encoding.ensures) ∙ h)

pub returns-clause-exact : goal.returns-clause-exact
returns-clause-exact g c =
    λ h clear.
    clear-exact g.C.Config.setting c.args.old.now c.args.new.now clear
    (sym (c.compare.ensures.is_read ∙ ap (λ e. is_read e c.args.old.now c.args.new.now) c.int_encoding.ensures) ∙ h)
