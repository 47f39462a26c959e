use Rattle.std.proofs.Common.{inl, refl}
use Rattle.crash_device.specs.Files.{CompactsPart, ReplacesOrNot}
use Rattle.crash_device.proofs.Crashes.{stepped, replaced-compacts, cut-compacts}
use Rattle.crash_device.specs.MomentLaws.{begins, continues}
use Rattle.crash_device.proofs.durable.compact.Goals as goal

pub returns-in_err-replace-clause-any_moment : goal.returns-in_err-replace-clause-any_moment
returns-in_err-replace-clause-any_moment g c =
    let device = c.args.device.now in
    let files = g.D.Device.seen device in
    let bytes = c.args.snapshot.now in
    begins g.D.Device.moment g.D.Device.left_since device c.replace.new.self files (CompactsPart bytes files) (g.D.Device.may_leave device) _ c.requires (g.met.D.Device.only_now device)
    (inl refl) c.replace.ensures.time (λ f left. replaced-compacts bytes files f (stepped (ReplacesOrNot bytes) files _ _ c.requires c.replace.ensures.crash f left))

pub returns-clause-any_moment : goal.returns-clause-any_moment
returns-clause-any_moment g c =
    let device = c.args.device.now in
    let files = g.D.Device.seen device in
    let bytes = c.args.snapshot.now in
    let mid = c.replace.new.self in
    let so_far = begins g.D.Device.moment g.D.Device.left_since device mid files (CompactsPart bytes files) (g.D.Device.may_leave device) _ c.requires (g.met.D.Device.only_now device)
    (inl refl) c.replace.ensures.time (λ f left. replaced-compacts bytes files f (stepped (ReplacesOrNot bytes) files _ _ c.requires c.replace.ensures.crash f left)) in
    continues g.D.Device.moment g.D.Device.left_since device mid c.cut_durably.new.device (CompactsPart bytes files) _ so_far c.cut_durably.ensures.any_moment
    (λ f left. cut-compacts bytes files (g.D.Device.seen mid) f c.in_ok-replace.ensures.replaced left)
