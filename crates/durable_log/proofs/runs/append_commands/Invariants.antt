use Rattle.std.proofs.Common.{◌≡◌, ◌≤◌, List, take}
use Rattle.framed_store.specs.Pieces.{Piece}
use Rattle.crash_device.specs.Moments.{LeavesOnly, Only}
use Rattle.durable_log.specs.Runs.{IsLogAfter, StandsForPart}
use Rattle.durable_log.specs.Standing.{IsLogOf}
use Rattle.durable_log.proofs.runs.append_commands.Given as goal

abbrev pub invariant-loop-command : goal.invariant-loop-command
invariant-loop-command g l = record {
  durable : Only (g.D.Device.seen l.device) (g.D.Device.may_leave l.device);
  later : g.D.Device.faults l.initial.device ≤ g.D.Device.faults l.device;
  snapshot : (g.D.Device.seen l.device).snapshot ≡ (g.D.Device.seen l.initial.device).snapshot;
  has_run : (pieces : List (Piece g.row.T.Denot)) → IsLogOf g.T.Wire.words g.C.Config.setting g.C.Config.bound l.most pieces (g.D.Device.seen l.initial.device).log →
      IsLogAfter g.T.Wire.words g.C.Config.setting g.C.Config.bound l.most pieces (take l.command-index l.commands) (g.D.Device.seen l.device).log;
  moments : (pieces : List (Piece g.row.T.Denot)) → IsLogOf g.T.Wire.words g.C.Config.setting g.C.Config.bound l.most pieces (g.D.Device.seen l.initial.device).log →
      LeavesOnly g.D.Device.moment g.D.Device.left_since l.initial.device l.device (StandsForPart g.T.Wire.words g.C.Config.setting g.C.Config.bound l.most pieces l.commands (g.D.Device.seen l.initial.device));
}
