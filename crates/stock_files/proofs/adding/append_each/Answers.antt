use Rattle.std.proofs.lemmas.Result.{err_from_is_err_and}
use Rattle.stock_files.proofs.Growing.{adds-more, adds-left}
use Rattle.stock_files.proofs.adding.append_each.Goals as goal

pub returns-in_err-append-clause-left : goal.returns-in_err-append-clause-left
returns-in_err-append-clause-left g c =
    let p = err_from_is_err_and c.from_residual-in_err-append.result c.from_residual-in_err-append.ensures.1 in
    rw p.1 (adds-left g.T.Wire.words g.C.Config.setting g.C.Config.bound c.args.most g.W.Write.contents c.loop-added.added c.in-Some.value (g.W.Write.contents c.args.store.now) c.loop-added.store
    c.append.new.store c.in_err-append.field-0.0 c.loop-added.invariant c.in_err-append.ensures.left)

pub loop-added-preserved : goal.loop-added-preserved
loop-added-preserved g c =
    adds-more g.T.Wire.words g.C.Config.setting g.C.Config.bound c.args.most c.loop-added.added c.in_ok-append.field-0 c.in-Some.value (g.W.Write.contents c.args.store.now)
    (g.W.Write.contents c.loop-added.store) (g.W.Write.contents c.append.new.store) c.loop-added.invariant c.in_ok-append.ensures.added
