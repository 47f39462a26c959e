use Rattle.std.proofs.Common.{◌++◌, ap}
use Rattle.crash_device.specs.Files.{Files}
use Rattle.crash_device.specs.MomentLaws.{weaker}
use Rattle.durable_log.proofs.MachineLaws.{one-after, before-or-after}
use Rattle.durable_log.proofs.machines.append_next.Goals as goal

pub returns-clause-after : goal.returns-clause-after
returns-clause-after g c =
    λ first commands next hold.
    let files = g.D.Device.seen c.args.device.now in
    one-after _ _ _ _ _ _ _ first commands _ _ files hold c.args.numbered.now.next c.args.command next (g.D.Device.seen c.append_command.new.device)
    (ap (λ (f : Files). f.snapshot) c.in_ok-append_command.ensures.added.2) (c.in_ok-append_command.ensures.after (hold.passed ++ hold.others) hold.of_log)

pub returns-clause-any_moment : goal.returns-clause-any_moment
returns-clause-any_moment g c =
    λ first commands next hold.
    let files = g.D.Device.seen c.args.device.now in
    weaker g.D.Device.moment g.D.Device.left_since c.args.device.now c.append_command.new.device _ _ (c.append_command.ensures.before_or_after (hold.passed ++ hold.others) hold.of_log)
    (λ f left. before-or-after _ _ _ _ _ _ _ first commands _ _ files hold c.args.numbered.now.next c.args.command next f left)

pub returns-in_err-append_command-clause-any_moment : goal.returns-in_err-append_command-clause-any_moment
returns-in_err-append_command-clause-any_moment g c =
    λ first commands next hold.
    let files = g.D.Device.seen c.args.device.now in
    weaker g.D.Device.moment g.D.Device.left_since c.args.device.now c.append_command.new.device _ _ (c.append_command.ensures.before_or_after (hold.passed ++ hold.others) hold.of_log)
    (λ f left. before-or-after _ _ _ _ _ _ _ first commands _ _ files hold c.args.numbered.now.next c.args.command next f left)
