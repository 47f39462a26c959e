use Rattle.std.proofs.Common.{◌<◌, ◌^◌, arith}
use Rattle.durable_log.specs.Recovering.{IsOutside}
use Rattle.durable_log.proofs.Recoveries.{both, IfErr-weaker, recovers-standing}
use Rattle.durable_log.proofs.Stops.{stops-outside}
use Rattle.durable_log.proofs.recovering.replay_log.Goals as goal

pub returns-clause-recovers : goal.returns-clause-recovers
returns-clause-recovers g c =
    λ pieces stands.
    both c.replay.result _ _ _
    (λ replayed is r.
    recovers-standing g.M.Command.Wire.words g.C.Config.setting g.C.Config.bound c.args.most pieces c.args.log.now stands g.M.Command.PartialEq.eq g.M.Machine.applies (g.M.Machine.state c.args.machine.now)
    (g.M.Machine.state c.replay.new.machine) replayed is r)
    (c.replay.ensures.replayed tt) (c.replay.ensures.recovers tt stands.are_bytes _ stands.lost stands.are_pieces stands.bytes_are)

pub returns-clause-from_outside : goal.returns-clause-from_outside
returns-clause-from_outside g c =
    let small : c.args.most < 2 ^ 32 = let fits = c.ranges.most.fits in omega (arith, fits) in
    λ pieces stands.
    IfErr-weaker c.replay.result _ (λ e. IsOutside e.why)
    (λ e stop.
    stops-outside g.M.Command.Wire.words g.C.Config.setting g.C.Config.bound c.args.most small g.M.Command.PartialEq.eq c.tell_exact.ensures pieces c.args.log.now stands g.M.Machine.applies g.M.Machine.refuses
    (g.M.Machine.state c.args.machine.now) (g.M.Machine.state c.replay.new.machine) e stop)
    (c.replay.ensures.stopped tt)
