use Rattle.std.proofs.Common.{◌-◌, ◌^◌, ◌≤◌}
use Rattle.bincode_io.specs.Stream.{TellsBytes, known_bytes}
use Rattle.replay.specs.Replays.{RunsFor, LeadsTo}
use Rattle.replay.proofs.replay.replay_frames.Given as goal

abbrev pub invariant-commands : goal.invariant-commands
invariant-commands g l = record {
  counts : l.commands ≤ l.offset;
  runs : RunsFor g.M.Machine.applies l.commands (g.M.Machine.state l.initial.machine) (g.M.Machine.state l.machine);
  is_known : TellsBytes (g.R.Read.remaining l.initial.log) → TellsBytes (g.R.Read.remaining l.log);
  so_far : TellsBytes (g.R.Read.remaining l.initial.log) → LeadsTo g.M.Machine.applies (g.M.Command.Wire.words.format g.C.Config.setting) g.C.Config.bound g.M.Command.Wire.words.decodes_to l.most
      (known_bytes (g.R.Read.remaining l.initial.log)) (g.M.Machine.state l.initial.machine) l.commands l.offset (g.M.Machine.state l.machine) (known_bytes (g.R.Read.remaining l.log));
}

abbrev pub decreases-commands : goal.decreases-commands
decreases-commands g l = 2 ^ 64 - l.offset
