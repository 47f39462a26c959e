use Rattle.std.proofs.Common.{arith}
use Rattle.bincode_io.specs.Stream.{known_bytes}
use Rattle.replay.proofs.LogSteps.{runs-more, leads-more}
use Rattle.replay.proofs.replay.replay_frames.Goals as goal

pub commands-preserved : goal.commands-preserved
commands-preserved g c =
    let before = c.commands.invariant in
    let stepped = rw c.in-Ok-Applied.field-0-is at c.in-Ok-Applied.ensures.steps in
    let counts = before.counts in
    let longer = stepped.2 in record {
      counts = omega (arith, counts, longer);
      runs = runs-more g.M.Machine.applies c.commands.commands stepped.0 (g.M.Machine.state c.args.machine.now) (g.M.Machine.state c.commands.machine) (g.M.Machine.state c.apply_next.new.machine) before.runs stepped.1;
      is_known = λ tells. c.in-Ok-Applied.ensures.is_known (before.is_known tells);
      so_far = λ tells.
          leads-more g.M.Machine.applies (g.M.Command.Wire.words.format g.C.Config.setting) g.C.Config.bound g.M.Command.Wire.words.decodes_to c.args.most (known_bytes (g.R.Read.remaining c.args.log.now))
          (g.M.Machine.state c.args.machine.now) (g.M.Machine.state c.commands.machine) (g.M.Machine.state c.apply_next.new.machine) c.commands.commands c.commands.offset c.in-Ok-Applied.next
          (known_bytes (g.R.Read.remaining c.commands.log)) (known_bytes (g.R.Read.remaining c.apply_next.new.log)) (before.so_far tells) (rw c.in-Ok-Applied.field-0-is at (c.in-Ok-Applied.ensures.takes (before.is_known tells)));
    }
