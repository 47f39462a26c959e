use Rattle.std.proofs.Common.{◌≡◌, ◌++◌, length, take, sym, ap, subst, ◌∙◌}
use Rattle.snapshots.specs.Saved.{IsSavedAs}
use Rattle.crash_device.specs.Files.{Files}
use Rattle.crash_device.specs.Moments.{Only}
use Rattle.crash_device.specs.MomentLaws.{begins, continues}
use Rattle.durable_log.specs.Recovering.{ComesFromOutside}
use Rattle.snapshots.specs.RowLaws.{equal-parts}
use Rattle.durable_log.proofs.MachineLaws.{has-come, same-files, stands-in, with-log}
use Rattle.durable_log.proofs.machines.resume_from_device.Goals as goal

pub returns-in-Ok-recover-clause-comes_back : goal.returns-in-Ok-recover-clause-comes_back
returns-in-Ok-recover-clause-comes_back g c =
    λ first commands hold.
    let files = g.D.Device.seen c.args.device.now in
    let read : c.deref.result.now ≡ files.snapshot = c.deref.ensures.value ∙ c.in-Ok.ensures.bytes in
    let old = c.in-Ok-restore_machine.numbered in
    let new = c.recover.new.machine in
    let back = c.in-Ok-restore_machine.ensures.back (length hold.earlier) hold.saved hold.is_number
    (subst (IsSavedAs g.M.Saving.stands_for _ g.C.Config.setting g.C.Config.bound (length hold.earlier) hold.saved) (sym read) hold.is_saved) in
    has-come _ _ _ _ _ _ _ first commands _ files hold _ (equal-parts g.M.Command.PartialEq.eq) (old.next, g.M.Machine.state old.machine) (new.next, g.M.Machine.state new.machine) _ back.0 back.1
    (c.in-Ok-recover.ensures.recovers (hold.passed ++ hold.others) (stands-in _ _ _ _ _ _ _ first commands _ _ files (g.D.Device.seen c.read_snapshot.new.self) hold c.in-Ok.ensures.seen))

pub returns-in-Ok-recover-clause-whole : goal.returns-in-Ok-recover-clause-whole
returns-in-Ok-recover-clause-whole g c =
    λ first commands hold.
    let files = g.D.Device.seen c.args.device.now in
    with-log _ _ _ _ _ _ _ first commands _ _ files (g.D.Device.seen c.recover.new.device) hold
    (ap (λ (f : Files). f.snapshot) c.in-Ok-recover.ensures.cut.seen_are ∙ ap (λ (f : Files). f.snapshot) c.in-Ok.ensures.seen)
    (c.in-Ok-recover.ensures.whole (hold.passed ++ hold.others) (stands-in _ _ _ _ _ _ _ first commands _ _ files (g.D.Device.seen c.read_snapshot.new.self) hold c.in-Ok.ensures.seen))

pub returns-in-Ok-recover-clause-any_moment : goal.returns-in-Ok-recover-clause-any_moment
returns-in-Ok-recover-clause-any_moment g c =
    λ first commands hold.
    let device = c.args.device.now in
    let files = g.D.Device.seen device in
    let mid = c.read_snapshot.new.self in
    continues g.D.Device.moment g.D.Device.left_since device mid c.recover.new.device _ _
    (begins g.D.Device.moment g.D.Device.left_since device mid files _ (g.D.Device.may_leave device) (g.D.Device.may_leave mid) c.requires (g.met.D.Device.only_now device) hold c.read_snapshot.ensures.time
    (λ f left. same-files _ _ _ _ _ _ _ first commands _ files f (c.requires f (c.read_snapshot.ensures.crash f left)) hold))
    (c.recover.ensures.any_moment (hold.passed ++ hold.others) (stands-in _ _ _ _ _ _ _ first commands _ _ files (g.D.Device.seen mid) hold c.in-Ok.ensures.seen))
    (λ f left. with-log _ _ _ _ _ _ _ first commands _ _ files f hold (left.0 ∙ ap (λ (f : Files). f.snapshot) c.in-Ok.ensures.seen) left.1)

pub returns-in-Err-Device-clause-any_moment : goal.returns-in-Err-Device-clause-any_moment
returns-in-Err-Device-clause-any_moment g c =
    λ first commands hold.
    let device = c.args.device.now in
    let files = g.D.Device.seen device in
    let mid = c.read_snapshot.new.self in
    continues g.D.Device.moment g.D.Device.left_since device mid c.recover.new.device _ _
    (begins g.D.Device.moment g.D.Device.left_since device mid files _ (g.D.Device.may_leave device) (g.D.Device.may_leave mid) c.requires (g.met.D.Device.only_now device) hold c.read_snapshot.ensures.time
    (λ f left. same-files _ _ _ _ _ _ _ first commands _ files f (c.requires f (c.read_snapshot.ensures.crash f left)) hold))
    (c.recover.ensures.any_moment (hold.passed ++ hold.others) (stands-in _ _ _ _ _ _ _ first commands _ _ files (g.D.Device.seen mid) hold c.in-Ok.ensures.seen))
    (λ f left. with-log _ _ _ _ _ _ _ first commands _ _ files f hold (left.0 ∙ ap (λ (f : Files). f.snapshot) c.in-Ok.ensures.seen) left.1)

pub returns-clause-any_moment : goal.returns-clause-any_moment
returns-clause-any_moment g c =
    λ first commands hold.
    let device = c.args.device.now in
    let files = g.D.Device.seen device in
    let mid = c.read_snapshot.new.self in
    continues g.D.Device.moment g.D.Device.left_since device mid c.recover.new.device _ _
    (begins g.D.Device.moment g.D.Device.left_since device mid files _ (g.D.Device.may_leave device) (g.D.Device.may_leave mid) c.requires (g.met.D.Device.only_now device) hold c.read_snapshot.ensures.time
    (λ f left. same-files _ _ _ _ _ _ _ first commands _ files f (c.requires f (c.read_snapshot.ensures.crash f left)) hold))
    (c.recover.ensures.any_moment (hold.passed ++ hold.others) (stands-in _ _ _ _ _ _ _ first commands _ _ files (g.D.Device.seen mid) hold c.in-Ok.ensures.seen))
    (λ f left. with-log _ _ _ _ _ _ _ first commands _ _ files f hold (left.0 ∙ ap (λ (f : Files). f.snapshot) c.in-Ok.ensures.seen) left.1)

pub returns-in-Ok-recover-clause-restored : goal.returns-in-Ok-recover-clause-restored
returns-in-Ok-recover-clause-restored g c =
    let files = g.D.Device.seen c.args.device.now in
    let read : c.deref.result.now ≡ files.snapshot = c.deref.ensures.value ∙ c.in-Ok.ensures.bytes in
    let n = c.in-Ok-recover.field-0.length in record {
      number = c.in-Ok-restore_machine.numbered.next;
      machine = c.in-Ok-restore_machine.numbered.machine;
      restored = rw read at c.in-Ok-restore_machine.ensures.restored;
      replayed = c.in-Ok-recover.field-0;
      is_replay = rw c.in-Ok.ensures.seen at c.in-Ok-recover.ensures.replayed;
      is_cut = c.in-Ok-recover.ensures.cut.seen_are ∙ ap (λ (f : Files). record f { log = take n f.log }) c.in-Ok.ensures.seen;
    }

pub returns-in-Err-restore_machine-clause-from_outside : goal.returns-in-Err-restore_machine-clause-from_outside
returns-in-Err-restore_machine-clause-from_outside g c =
    λ first commands hold.
    let files = g.D.Device.seen c.args.device.now in
    let read : c.deref.result.now ≡ files.snapshot = c.deref.ensures.value ∙ c.in-Ok.ensures.bytes in
    c.in-Err-restore_machine.ensures.back (length hold.earlier) hold.saved hold.is_number
    (subst (IsSavedAs g.M.Saving.stands_for _ g.C.Config.setting g.C.Config.bound (length hold.earlier) hold.saved) (sym read) hold.is_saved)

pub returns-clause-from_outside : goal.returns-clause-from_outside
returns-clause-from_outside g c =
    λ first commands hold.
    let files = g.D.Device.seen c.args.device.now in
    let stands = stands-in _ _ _ _ _ _ _ first commands _ _ files (g.D.Device.seen c.read_snapshot.new.self) hold c.in-Ok.ensures.seen in
    subst ComesFromOutside c.in-Err-Replay.field-0-is (c.in-Err-Replay.ensures.from_outside (hold.passed ++ hold.others) stands)

pub returns-clause-fault : goal.returns-clause-fault
returns-clause-fault g c =
    let files = g.D.Device.seen c.args.device.now in
    let read : c.deref.result.now ≡ files.snapshot = c.deref.ensures.value ∙ c.in-Ok.ensures.bytes in
    let old = c.in-Ok-restore_machine.numbered in
    let new = c.recover.new.machine in
    let stopped = rw c.in-Err-Replay.field-0-is at c.in-Err-Replay.ensures.stopped in (
      stopped.0 ∙ c.in-Ok.ensures.seen,
      subst (λ z. Only z (g.D.Device.may_leave c.recover.new.device)) c.in-Ok.ensures.seen stopped.1,
      (
        old.next,
        old.machine,
        (new.next, g.M.Machine.state new.machine),
        rw read at c.in-Ok-restore_machine.ensures.restored,
        rw c.in-Ok.ensures.seen at stopped.2,
      ),
    )
