use Rattle.std.proofs.lemmas.Result.{on_ok_weaker}
use Rattle.durable_log.proofs.MachineLaws.{come-on}
use Rattle.durable_log.proofs.machines.apply_next.Goals as goal

pub returns-clause-leads_on : goal.returns-clause-leads_on
returns-clause-leads_on g c =
    λ first commands same come.
    let old = c.args.numbered.now in
    let new = c.apply.new.self in
    on_ok_weaker c.apply.result
    (λ applied. come-on g.M.Command.PartialEq.eq g.M.Machine.applies first commands (old.next, g.M.Machine.state old.machine) (new.next, g.M.Machine.state new.machine) c.args.command come same applied)
    c.apply.ensures.applied
