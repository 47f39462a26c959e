use Rattle.std.proofs.Common.{◌≡◌, ◌≤◌, vec_len}
use Rattle.std.specs.Io.{StartsWith}
use Rattle.std.specs.Io.KnownBytes.{Keeps}
use Rattle.shape_text.specs.Windows.{bytes_left}
use Rattle.shape_text.proofs.window.Window.read_more.Given as goal

abbrev pub invariant-loop : goal.invariant-loop
invariant-loop g l = record {
  above : l.before ≤ vec_len l.self.bytes;
  start : l.self.start ≡ 0;
  kept : Keeps (bytes_left g.R.Read.remaining l.initial.self) (bytes_left g.R.Read.remaining l.self);
  grown : StartsWith l.self.bytes.items l.initial.self.bytes.items;
}
