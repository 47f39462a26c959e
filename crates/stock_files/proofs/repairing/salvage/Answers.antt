use Rattle.std.proofs.Common.{sym, subst}
use Rattle.stock_files.proofs.Salvaging.{SalvagedTo, salvaged-kept, salvaged-passed}
use Rattle.stock_files.proofs.repairing.salvage.Goals as goal

pub frames-preserved-in-Whole : goal.frames-preserved-in-Whole
frames-preserved-in-Whole g c =
    let read = c.in-Whole.ensures in
    let old = g.W.Write.contents c.args.out.now in
    let new = g.W.Write.contents c.write_all.new.self in
    subst (λ z. SalvagedTo 65526 c.args.store.now z old new) (sym c.split_at.ensures.back)
    (salvaged-kept 65526 c.args.store.now c.frames.rest.now c.in-Whole.size old (g.W.Write.contents c.frames.out) new c.frames.invariant (read.0, read.1, read.2)
    (rw c.split_at.ensures.front at c.in_ok-write_all-in-Whole.ensures.bytes))

pub frames-preserved : goal.frames-preserved
frames-preserved g c =
    let old = g.W.Write.contents c.args.out.now in
    let now = g.W.Write.contents c.frames.out in
    subst (λ z. SalvagedTo 65526 c.args.store.now z old now) (sym c.split_at-in-Some.ensures.back)
    (salvaged-passed 65526 c.args.store.now c.frames.rest.now c.in-Some.size old now c.frames.invariant c.in-Some.ensures.some.2)
