use Rattle.crash_device.specs.Files.{AppendsPart}
use Rattle.crash_device.proofs.Crashes.{stepped, appends-none}
use Rattle.crash_device.specs.MomentLaws.{begins, goes_on}
use Rattle.crash_device.proofs.durable.append_durably.Goals as goal

pub returns-in_err-append-clause-any_moment : goal.returns-in_err-append-clause-any_moment
returns-in_err-append-clause-any_moment g c =
    let device = c.args.device.now in
    let files = g.D.Device.seen device in
    let step = AppendsPart c.args.bytes.now in
    begins g.D.Device.moment g.D.Device.left_since device c.append.new.self files (step files) (g.D.Device.may_leave device) _ c.requires (g.met.D.Device.only_now device)
    (appends-none c.args.bytes.now files) c.append.ensures.time (stepped step files _ _ c.requires c.append.ensures.crash)

pub returns-clause-any_moment : goal.returns-clause-any_moment
returns-clause-any_moment g c =
    let device = c.args.device.now in
    let files = g.D.Device.seen device in
    let step = AppendsPart c.args.bytes.now in
    let appended = stepped step files _ _ c.requires c.append.ensures.crash in
    let so_far = begins g.D.Device.moment g.D.Device.left_since device c.append.new.self files (step files) (g.D.Device.may_leave device) _ c.requires (g.met.D.Device.only_now device)
    (appends-none c.args.bytes.now files) c.append.ensures.time appended in
    goes_on g.D.Device.moment g.D.Device.left_since device c.append.new.self c.sync.new.self (step files) _ so_far c.sync.ensures.time (λ f left. appended f (c.sync.ensures.crash f left))
