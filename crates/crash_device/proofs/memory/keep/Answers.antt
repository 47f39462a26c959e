use Rattle.std.proofs.Common.{◌≡◌, rules}
use Rattle.crash_device.proofs.memory.keep.Goals as goal

pub returns-clause-kept : goal.returns-clause-kept
returns-clause-kept c =
    let snapshot : c.in_ok-snapshot.snapshot.items ≡ c.args.contents.now.snapshot.items = search rules in
    let log : c.in_ok-log.log.items ≡ c.args.contents.now.log.items = search rules in
    (record { snapshot = c.in_ok-snapshot.snapshot; log = c.in_ok-log.log }, (λ i. record { snapshot = snapshot i; log = log i }), c.in_ok-push.ensures.items)
