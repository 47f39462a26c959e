use Rattle.std.proofs.Common.{◌≤◌, ◌<◌, ◌+◌, ◌-◌, ◌∙◌, ap, length, refl, arith, le_refl}
use Rattle.bincode_io.proofs.Slices.{copied, put-length, unwritten}
use Rattle.bincode_io.proofs.write.SliceWriterWriter.write.Goals as goal

pub returns-then-self-bytes-clause-piece : goal.returns-then-self-bytes-clause-piece
returns-then-self-bytes-clause-piece c =
    let self = c.args.self.now in
    let within = self.within in
    let wanted = c.if-self-bytes.true in
    let short : length self.slice.now - self.written < length c.args.bytes.now = omega (arith, within, wanted) in
    record { ok = tt; err = (refl, short, refl); failures_monotone = le_refl 0; same_loans = refl }

pub returns-clause-piece : goal.returns-clause-piece
returns-clause-piece c =
    let self = c.args.self.now in
    let piece = c.args.bytes.now in
    let within : self.written + length piece ≤ length self.slice.now = omega arith in
    let counted : 0 ≤ 0 = le_refl 0 in
    let same = copied self.written _ self.slice.now c.copy_piece.new.target piece c.copy_piece.ensures (omega arith) in
    record {
      ok = (refl, same, ap length same ∙ put-length self.written piece self.slice.now within, unwritten self _ piece _ _ _ same refl refl);
      err = tt;
      failures_monotone = counted;
      same_loans = refl;
    }
