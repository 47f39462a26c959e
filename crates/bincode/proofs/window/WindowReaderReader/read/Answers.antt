use Rattle.std.proofs.Common.{rules, arith, refl}
use Rattle.bincode.proofs.Windowed.{window-part}
use Rattle.bincode.proofs.window.WindowReaderReader.read.Goals as goal

pub returns-clause-fills : goal.returns-clause-fills
returns-clause-fills g c = record {
  next = λ tells. window-part _ _ c.args.self.now.window _ c.args.self.now.len c.args.self.now.taken _ _ tells (search rules) (omega arith) (search rules) c.copy_from_slice.ensures.after;
  why = λ tells. tt;
  left = λ tells. tt;
  failures_monotone = omega arith;
  tells = λ tells. tells;
  same_loans = refl;
}
