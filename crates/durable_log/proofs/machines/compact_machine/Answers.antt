use Rattle.std.proofs.Common.{◌<◌, ◌^◌, rules, sym, subst}
use Rattle.snapshots.specs.Saved.{IsSavedAs}
use Rattle.crash_device.specs.Files.{CompactsPart}
use Rattle.crash_device.specs.MomentLaws.{weaker}
use Rattle.durable_log.proofs.MachineLaws.{saved-alone, compacts}
use Rattle.durable_log.proofs.machines.compact_machine.Goals as goal

pub returns-in-Ok-compact-clause-after : goal.returns-in-Ok-compact-clause-after
returns-in-Ok-compact-clause-after g c =
    λ most first commands come.
    let numbered = c.args.numbered.now in
    let small : numbered.next < 2 ^ 64 = search rules in
    let saved = subst (IsSavedAs g.M.Saving.stands_for _ g.C.Config.setting g.C.Config.bound numbered.next numbered.machine) (sym c.deref.ensures.value) c.in-Ok.ensures.saved in
    saved-alone _ _ _ _ _ _ _ first commands numbered.next numbered.machine small come c.deref.result.now saved _ most (g.D.Device.seen c.compact.new.device) c.in-Ok-compact.ensures.ok.seen_are

pub returns-in-Ok-compact-clause-any_moment : goal.returns-in-Ok-compact-clause-any_moment
returns-in-Ok-compact-clause-any_moment g c =
    λ most first commands come hold.
    let numbered = c.args.numbered.now in
    let small : numbered.next < 2 ^ 64 = search rules in
    let saved = subst (IsSavedAs g.M.Saving.stands_for _ g.C.Config.setting g.C.Config.bound numbered.next numbered.machine) (sym c.deref.ensures.value) c.in-Ok.ensures.saved in
    let files = g.D.Device.seen c.args.device.now in
    weaker g.D.Device.moment g.D.Device.left_since c.args.device.now c.compact.new.device (CompactsPart c.deref.result.now files) _ c.compact.ensures.any_moment
    (λ f part. compacts _ _ _ _ _ _ _ first commands numbered.next numbered.machine small come c.deref.result.now saved _ most files f hold part)

pub returns-clause-any_moment : goal.returns-clause-any_moment
returns-clause-any_moment g c =
    λ most first commands come hold.
    let numbered = c.args.numbered.now in
    let small : numbered.next < 2 ^ 64 = search rules in
    let saved = subst (IsSavedAs g.M.Saving.stands_for _ g.C.Config.setting g.C.Config.bound numbered.next numbered.machine) (sym c.deref.ensures.value) c.in-Ok.ensures.saved in
    let files = g.D.Device.seen c.args.device.now in
    weaker g.D.Device.moment g.D.Device.left_since c.args.device.now c.compact.new.device (CompactsPart c.deref.result.now files) _ c.compact.ensures.any_moment
    (λ f part. compacts _ _ _ _ _ _ _ first commands numbered.next numbered.machine small come c.deref.result.now saved _ most files f hold part)
