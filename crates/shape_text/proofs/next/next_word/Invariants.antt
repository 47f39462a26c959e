use Rattle.std.proofs.Common.{◌<◌, length}
use Rattle.std.specs.Io.{StartsWith}
use Rattle.std.specs.Io.KnownBytes.{Keeps}
use Rattle.shape_text.specs.Windows.{shown_bytes, bytes_left}
use Rattle.shape_text.proofs.next.next_word.Given as goal

abbrev pub invariant-loop : goal.invariant-loop
invariant-loop g l = record {
  some : 0 < length (shown_bytes l.window);
  kept : Keeps (bytes_left g.R.Read.remaining l.initial.window) (bytes_left g.R.Read.remaining l.window);
  grown : StartsWith (shown_bytes l.window) (shown_bytes l.initial.window);
}
