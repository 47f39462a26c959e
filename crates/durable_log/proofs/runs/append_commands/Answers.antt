use Rattle.std.proofs.Common.{◌≡◌, ◌++◌, ◌+◌, [], ◌∷◌, take, ap, ◌∙◌, arith, refl, rules, subst, sym}
use Rattle.std.proofs.lemmas.List.{take_more}
use Rattle.framed_store.specs.Appended.{FitsStore}
use Rattle.crash_device.specs.Files.{Files}
use Rattle.crash_device.specs.MomentLaws.{stays, continues}
use Rattle.durable_log.specs.Runs.{StandsForPart}
use Rattle.durable_log.specs.Standing.{IsBeforeOrAfter}
use Rattle.durable_log.proofs.RunSteps.{none-after, none-part, one-after, one-part}
use Rattle.durable_log.proofs.runs.append_commands.Goals as goal

pub loop-command-init : goal.loop-command-init
loop-command-init g c = record {
  durable = c.requires;
  later = omega arith;
  snapshot = refl;
  has_run = λ pieces is. none-after g.T.Wire.words g.C.Config.setting g.C.Config.bound c.args.most pieces (g.D.Device.seen c.args.device.now).log is;
  moments = λ pieces is.
      let device = c.args.device.now in
      let files = g.D.Device.seen device in
      stays g.D.Device.moment g.D.Device.left_since device files (StandsForPart g.T.Wire.words g.C.Config.setting g.C.Config.bound c.args.most pieces c.args.commands.now files) (g.D.Device.may_leave device) c.requires (g.met.D.Device.only_now device)
      (none-part g.T.Wire.words g.C.Config.setting g.C.Config.bound c.args.most pieces c.args.commands.now files is);
}

pub returns-in_err-append_command-clause-any_moment : goal.returns-in_err-append_command-clause-any_moment
returns-in_err-append_command-clause-any_moment g c =
    λ pieces is.
    let device = c.args.device.now in
    let files = g.D.Device.seen device in
    let mid = c.loop-command.device in
    let words = g.T.Wire.words in
    let i = c.loop-command.command-index in
    let value = c.command-item.result in
    let more : take (i + 1) c.args.commands.now ≡ take i c.args.commands.now ++ value ∷ [] =
    take_more c.args.commands.now i value c.loop-command-test.true ∙ ap (λ x. take i c.args.commands.now ++ x ∷ []) (sym c.command-item.is) in
    let run = c.loop-command.invariant.has_run pieces is in
    continues g.D.Device.moment g.D.Device.left_since device mid c.append_command.new.device (StandsForPart words g.C.Config.setting g.C.Config.bound c.args.most pieces c.args.commands.now files)
    (IsBeforeOrAfter words g.C.Config.setting g.C.Config.bound c.args.most (pieces ++ run.0) value (g.D.Device.seen mid)) (c.loop-command.invariant.moments pieces is)
    (c.append_command.ensures.before_or_after (pieces ++ run.0) run.2)
    (λ f left. one-part words g.C.Config.setting g.C.Config.bound c.args.most pieces c.args.commands.now i value more run.0 run.1 files (g.D.Device.seen mid) f c.loop-command.invariant.snapshot left)

pub loop-command-preserved : goal.loop-command-preserved
loop-command-preserved g c =
    let device = c.args.device.now in
    let files = g.D.Device.seen device in
    let mid = c.loop-command.device in
    let words = g.T.Wire.words in
    let i = c.loop-command.command-index in
    let value = c.command-item.result in
    let more : take (i + 1) c.args.commands.now ≡ take i c.args.commands.now ++ value ∷ [] =
    take_more c.args.commands.now i value c.loop-command-test.true ∙ ap (λ x. take i c.args.commands.now ++ x ∷ []) (sym c.command-item.is) in
    record {
      durable = c.in_ok-append_command.ensures.durable;
      later = omega (arith, c.loop-command.invariant.later, c.append_command.ensures.later);
      snapshot = ap (λ (f : Files). f.snapshot) c.in_ok-append_command.ensures.added.2 ∙ c.loop-command.invariant.snapshot;
      has_run = λ pieces is.
          let run = c.loop-command.invariant.has_run pieces is in
          one-after words g.C.Config.setting g.C.Config.bound c.args.most pieces c.args.commands.now i value more run.0 run.1 (g.D.Device.seen c.append_command.new.device).log
          (c.in_ok-append_command.ensures.after (pieces ++ run.0) run.2);
      moments = λ pieces is.
          let run = c.loop-command.invariant.has_run pieces is in
          continues g.D.Device.moment g.D.Device.left_since device mid c.append_command.new.device (StandsForPart words g.C.Config.setting g.C.Config.bound c.args.most pieces c.args.commands.now files)
          (IsBeforeOrAfter words g.C.Config.setting g.C.Config.bound c.args.most (pieces ++ run.0) value (g.D.Device.seen mid)) (c.loop-command.invariant.moments pieces is)
          (c.append_command.ensures.before_or_after (pieces ++ run.0) run.2)
          (λ f left. one-part words g.C.Config.setting g.C.Config.bound c.args.most pieces c.args.commands.now i value more run.0 run.1 files (g.D.Device.seen mid) f c.loop-command.invariant.snapshot left);
    }

pub returns-in_err-append_command-clause-fits : goal.returns-in_err-append_command-clause-fits
returns-in_err-append_command-clause-fits g c =
    λ all_fit.
    let value = c.command-item.result in
    let i = c.loop-command.command-index in
    let fits = subst (FitsStore g.T.Wire.words g.C.Config.setting g.C.Config.bound c.args.most) (sym c.command-item.is) (all_fit i value c.loop-command-test.true) in
    let forced = c.in_err-append_command.ensures.fits fits in
    search (rules, forced)
