use Rattle.stock_files.specs.Stores.{AddsAll}
use Rattle.stock_files.proofs.adding.append_each.Given as goal

abbrev pub invariant-loop-added : goal.invariant-loop-added
invariant-loop-added g l = AddsAll g.T.Wire.words g.C.Config.setting g.C.Config.bound l.most l.added (g.W.Write.contents l.initial.store) (g.W.Write.contents l.store)
