use Rattle.std.proofs.Common.{◌+◌, take, arith, subst, sym}
use Rattle.stock_files.specs.Statuses.{IsGreatest}
use Rattle.stock_files.proofs.Greatest.{greatest-same, greatest-more}
use Rattle.stock_files.proofs.status.run_status.Goals as goal
use Rattle.stock_files.proofs.status.run_status.Goals.{then-status-greatest, else-status-greatest}

pub loop-status-preserved : goal.loop-status-preserved
loop-status-preserved c =
    let ns = c.args.statuses.now in
    let i = c.loop-status.status-index in
    let within = c.loop-status-test.true in
    elim c.if-status-greatest.branch [
      | then-status-greatest w ↦ subst (λ n. IsGreatest (take (i + 1) ns) n) (sym w.greatest-is) (greatest-more ns i c.loop-status.greatest within w.if-status-greatest.true c.loop-status.invariant)
      | else-status-greatest w ↦ subst (λ n. IsGreatest (take (i + 1) ns) n) (sym w.greatest-is) (greatest-same ns i c.loop-status.greatest within (omega (arith, w.if-status-greatest.false)) c.loop-status.invariant)
    ]
