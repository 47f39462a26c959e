use Rattle.std.proofs.Common.{◌-◌, drop, min, arith, subst}
use Rattle.stock_files.specs.Repairs.{IsPlan}
use Rattle.stock_files.proofs.Reaching.{plan-of-file}
use Rattle.stock_files.proofs.repairing.plan_for.Goals as goal

pub returns-clause-file : goal.returns-clause-file
returns-clause-file c = λ bytes same.
    let found = c.args.found.now in
    let n = found.length in
    plan-of-file 65526 65533 n bytes (omega arith) found c.args.repair c.plan_for_end.result
    (subst (λ z. IsPlan 65526 found z (min n 65533) c.args.repair c.plan_for_end.result) same c.plan_for_end.ensures)
