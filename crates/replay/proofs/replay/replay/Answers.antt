use Rattle.std.proofs.Common.{◌<◌, ◌^◌, arith}
use Rattle.std.proofs.lemmas.Result.{IfOk-weaker}
use Rattle.bincode_io.specs.Stream.{known_bytes}
use Rattle.replay.specs.RecoveryLaws.{replayed-recovers}
use Rattle.replay.proofs.replay.replay.Goals as goal

pub returns-clause-recovers : goal.returns-clause-recovers
returns-clause-recovers g c =
    let most = c.args.most in
    let small : most < 2 ^ 32 = let fits = c.ranges.most.fits in omega (arith, fits) in λ tells bytes pieces lost are e.
    IfOk-weaker c.replay_frames.result _ _
    (λ replayed h.
    replayed-recovers g.M.Command.Wire.words g.C.Config.setting g.C.Config.bound most small _ c.tell_exact.ensures g.M.Machine.applies (known_bytes (g.R.Read.remaining c.args.log.now)) bytes pieces lost are e
    (g.M.Machine.state c.args.machine.now) (g.M.Machine.state c.replay_frames.new.machine) replayed h)
    (c.replay_frames.ensures.replayed tells)
