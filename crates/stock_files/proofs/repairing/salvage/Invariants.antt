use Rattle.std.proofs.Common.{length}
use Rattle.stock_files.proofs.Salvaging.{SalvagedTo}
use Rattle.stock_files.proofs.repairing.salvage.Given as goal

abbrev pub invariant-frames : goal.invariant-frames
invariant-frames g l = SalvagedTo 65526 l.store l.rest (g.W.Write.contents l.initial.out) (g.W.Write.contents l.out)

abbrev pub decreases-frames : goal.decreases-frames
decreases-frames g l = length l.rest
