use Rattle.crash_device.specs.Files.{CutsPart}
use Rattle.crash_device.proofs.Crashes.{stepped, cuts-none}
use Rattle.crash_device.specs.MomentLaws.{begins, goes_on}
use Rattle.crash_device.proofs.durable.cut_durably.Goals as goal

pub returns-in_err-cut-clause-any_moment : goal.returns-in_err-cut-clause-any_moment
returns-in_err-cut-clause-any_moment g c =
    let device = c.args.device.now in
    let files = g.D.Device.seen device in
    let step = CutsPart c.args.length in
    begins g.D.Device.moment g.D.Device.left_since device c.cut.new.self files (step files) (g.D.Device.may_leave device) _ c.requires (g.met.D.Device.only_now device)
    (cuts-none c.args.length files) c.cut.ensures.time (stepped step files _ _ c.requires c.cut.ensures.crash)

pub returns-clause-any_moment : goal.returns-clause-any_moment
returns-clause-any_moment g c =
    let device = c.args.device.now in
    let files = g.D.Device.seen device in
    let step = CutsPart c.args.length in
    let cut = stepped step files _ _ c.requires c.cut.ensures.crash in
    let so_far = begins g.D.Device.moment g.D.Device.left_since device c.cut.new.self files (step files) (g.D.Device.may_leave device) _ c.requires (g.met.D.Device.only_now device)
    (cuts-none c.args.length files) c.cut.ensures.time cut in
    goes_on g.D.Device.moment g.D.Device.left_since device c.cut.new.self c.sync.new.self (step files) _ so_far c.sync.ensures.time (λ f left. cut f (c.sync.ensures.crash f left))
