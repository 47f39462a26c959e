use Rattle.std.proofs.Common.{◌≡◌, ◌<◌, ◌++◌, inl, refl, sym, ap, subst, ◌∙◌}
use Rattle.std.proofs.lemmas.Result.{on_ok_weaker}
use Rattle.std.specs.List.{All}
use Rattle.frames.specs.Frames.{frame}
use Rattle.crash_device.specs.Files.{Files, AppendsPart}
use Rattle.crash_device.specs.Moments.{Holds}
use Rattle.crash_device.specs.MomentLaws.{stays, weaker}
use Rattle.durable_log.specs.Standing.{IsLogOf, IsBeforeOrAfter}
use Rattle.durable_log.proofs.Fronts.{stands-whole, adds-one, part-before-or-after}
use Rattle.durable_log.proofs.appending.append_command.Goals as goal

pub returns-in_err-frame-clause-before_or_after : goal.returns-in_err-frame-clause-before_or_after
returns-in_err-frame-clause-before_or_after g c =
    λ pieces is.
    let device = c.args.device.now in
    let files = g.D.Device.seen device in
    stays g.D.Device.moment g.D.Device.left_since device files (IsBeforeOrAfter g.T.Wire.words g.C.Config.setting g.C.Config.bound c.args.most pieces c.args.command.now files) (g.D.Device.may_leave device) c.requires
    (g.met.D.Device.only_now device) (refl, inl (stands-whole g.T.Wire.words g.C.Config.setting g.C.Config.bound c.args.most pieces files.log is))

pub returns-clause-after : goal.returns-clause-after
returns-clause-after g c =
    λ pieces is.
    let files = g.D.Device.seen c.args.device.now in
    let framed = c.in_ok-frame.ensures.frame in
    let sent : c.deref.result.now ≡ frame framed.0 = c.deref.ensures.value ∙ framed.2 in
    let one = adds-one g.T.Wire.words g.C.Config.setting g.C.Config.bound c.args.most pieces c.args.command.now framed.0 files.log is framed.1 (subst (All (λ b. b < 256)) sent c.append_frame.ensures.bytes) in
    on_ok_weaker c.append_frame.result
    (λ (holds : Holds g.D.Device.seen g.D.Device.may_leave c.append_frame.new.device (record files { log = files.log ++ c.deref.result.now })).
    let log : (g.D.Device.seen c.append_frame.new.device).log ≡ files.log ++ frame framed.0 = ap (λ (f : Files). f.log) holds.seen_are ∙ ap (λ z. files.log ++ z) sent in
    (framed.0, subst (IsLogOf g.T.Wire.words g.C.Config.setting g.C.Config.bound c.args.most _) (sym log) one))
    c.append_frame.ensures.ok

pub returns-clause-before_or_after : goal.returns-clause-before_or_after
returns-clause-before_or_after g c =
    λ pieces is.
    let device = c.args.device.now in
    let files = g.D.Device.seen device in
    let framed = c.in_ok-frame.ensures.frame in
    let sent : c.deref.result.now ≡ frame framed.0 = c.deref.ensures.value ∙ framed.2 in
    weaker g.D.Device.moment g.D.Device.left_since device c.append_frame.new.device (AppendsPart c.deref.result.now files)
    (IsBeforeOrAfter g.T.Wire.words g.C.Config.setting g.C.Config.bound c.args.most pieces c.args.command.now files) c.append_frame.ensures.any_moment
    (part-before-or-after g.T.Wire.words g.C.Config.setting g.C.Config.bound c.args.most pieces c.args.command.now framed.0 files.log is framed.1 (subst (All (λ b. b < 256)) sent c.append_frame.ensures.bytes) files refl
    c.deref.result.now sent)
