use Rattle.std.proofs.Common.{◌≡◌, refl, sym, take, ap, subst, ◌∙◌}
use Rattle.crash_device.specs.Files.{Files, CutsPart}
use Rattle.crash_device.specs.MomentLaws.{begins, continues}
use Rattle.durable_log.specs.Standing.{StandsFor}
use Rattle.durable_log.proofs.Recoveries.{log-of-whole, cuts-stand}
use Rattle.durable_log.proofs.recovering.recover.Goals as goal

pub returns-in-Err-replay_log-clause-any_moment : goal.returns-in-Err-replay_log-clause-any_moment
returns-in-Err-replay_log-clause-any_moment g c =
    λ pieces stands.
    let device = c.args.device.now in
    let files = g.D.Device.seen device in
    let P : Files → Type 0 = λ f. (f.snapshot ≡ files.snapshot) × StandsFor g.M.Command.Wire.words g.C.Config.setting g.C.Config.bound c.args.most pieces f.log in
    let at_first : P files = (refl, stands) in
    begins g.D.Device.moment g.D.Device.left_since device c.read_log.new.self files P (g.D.Device.may_leave device) (g.D.Device.may_leave c.read_log.new.self) c.requires (g.met.D.Device.only_now device) at_first
    c.read_log.ensures.time (λ f left. subst P (sym (c.requires f (c.read_log.ensures.crash f left))) at_first)

pub returns-in-Ok-cut_durably-clause-whole : goal.returns-in-Ok-cut_durably-clause-whole
returns-in-Ok-cut_durably-clause-whole g c =
    λ pieces stands.
    let files = g.D.Device.seen c.args.device.now in
    let words = g.M.Command.Wire.words in
    let read : c.deref.result.now ≡ files.log = c.deref.ensures.value ∙ c.in-Ok.ensures.bytes in
    let end = (c.in-Ok-replay_log.ensures.recovers pieces (subst (StandsFor words g.C.Config.setting g.C.Config.bound c.args.most pieces) (sym read) stands)).1 in
    log-of-whole words g.C.Config.setting g.C.Config.bound c.args.most pieces files.log stands (g.D.Device.seen c.cut_durably.new.device).log
    (ap (λ n. take n files.log) (sym end)
    ∙ (ap (λ (f : Files). take c.in-Ok-replay_log.replayed.length f.log) (sym c.in-Ok.ensures.seen) ∙ ap (λ (f : Files). f.log) (sym c.in-Ok-cut_durably.ensures.ok.seen_are)))

pub returns-in-Ok-cut_durably-clause-any_moment : goal.returns-in-Ok-cut_durably-clause-any_moment
returns-in-Ok-cut_durably-clause-any_moment g c =
    λ pieces stands.
    let device = c.args.device.now in
    let files = g.D.Device.seen device in
    let words = g.M.Command.Wire.words in
    let P : Files → Type 0 = λ f. (f.snapshot ≡ files.snapshot) × StandsFor words g.C.Config.setting g.C.Config.bound c.args.most pieces f.log in
    let at_first : P files = (refl, stands) in
    let so_far = begins g.D.Device.moment g.D.Device.left_since device c.read_log.new.self files P (g.D.Device.may_leave device) (g.D.Device.may_leave c.read_log.new.self) c.requires
    (g.met.D.Device.only_now device) at_first c.read_log.ensures.time (λ f left. subst P (sym (c.requires f (c.read_log.ensures.crash f left))) at_first) in
    let read : c.deref.result.now ≡ files.log = c.deref.ensures.value ∙ c.in-Ok.ensures.bytes in
    let end = (c.in-Ok-replay_log.ensures.recovers pieces (subst (StandsFor words g.C.Config.setting g.C.Config.bound c.args.most pieces) (sym read) stands)).1 in
    let n = c.in-Ok-replay_log.replayed.length in
    continues g.D.Device.moment g.D.Device.left_since device c.read_log.new.self c.cut_durably.new.device P (CutsPart n (g.D.Device.seen c.read_log.new.self)) so_far c.cut_durably.ensures.any_moment
    (λ f part. cuts-stand words g.C.Config.setting g.C.Config.bound c.args.most pieces files.log stands files refl n end f (subst (λ z. CutsPart n z f) c.in-Ok.ensures.seen part))

pub returns-clause-any_moment : goal.returns-clause-any_moment
returns-clause-any_moment g c =
    λ pieces stands.
    let device = c.args.device.now in
    let files = g.D.Device.seen device in
    let words = g.M.Command.Wire.words in
    let P : Files → Type 0 = λ f. (f.snapshot ≡ files.snapshot) × StandsFor words g.C.Config.setting g.C.Config.bound c.args.most pieces f.log in
    let at_first : P files = (refl, stands) in
    let so_far = begins g.D.Device.moment g.D.Device.left_since device c.read_log.new.self files P (g.D.Device.may_leave device) (g.D.Device.may_leave c.read_log.new.self) c.requires
    (g.met.D.Device.only_now device) at_first c.read_log.ensures.time (λ f left. subst P (sym (c.requires f (c.read_log.ensures.crash f left))) at_first) in
    let read : c.deref.result.now ≡ files.log = c.deref.ensures.value ∙ c.in-Ok.ensures.bytes in
    let end = (c.in-Ok-replay_log.ensures.recovers pieces (subst (StandsFor words g.C.Config.setting g.C.Config.bound c.args.most pieces) (sym read) stands)).1 in
    let n = c.in-Ok-replay_log.replayed.length in
    continues g.D.Device.moment g.D.Device.left_since device c.read_log.new.self c.cut_durably.new.device P (CutsPart n (g.D.Device.seen c.read_log.new.self)) so_far c.cut_durably.ensures.any_moment
    (λ f part. cuts-stand words g.C.Config.setting g.C.Config.bound c.args.most pieces files.log stands files refl n end f (subst (λ z. CutsPart n z f) c.in-Ok.ensures.seen part))

pub returns-in-Err-replay_log-clause-from_outside : goal.returns-in-Err-replay_log-clause-from_outside
returns-in-Err-replay_log-clause-from_outside g c =
    λ pieces stands.
    let read : c.deref.result.now ≡ (g.D.Device.seen c.args.device.now).log = c.deref.ensures.value ∙ c.in-Ok.ensures.bytes in
    c.in-Err-replay_log.ensures.from_outside pieces (subst (StandsFor g.M.Command.Wire.words g.C.Config.setting g.C.Config.bound c.args.most pieces) (sym read) stands)
