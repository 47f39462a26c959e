use Rattle.std.proofs.Common.{◌≤◌, ◌<◌, arith, le_refl, length, refl, rules}
use Rattle.bincode_blocks.proofs.Blocks.{no-room, adds-held, held-grows}
use Rattle.bincode_blocks.proofs.block_writer.BlockWriterWriter.write.Goals as goal

pub returns-then-self-bytes-clause-piece : goal.returns-then-self-bytes-clause-piece
returns-then-self-bytes-clause-piece g c =
    let inside : length c.args.bytes.now ≤ length c.ensure_room.new.self.block = let whole = c.ensure_room.new.self.whole in omega arith in
    record {
      ok = tt;
      err = no-room g.W.Write.contents _ _ _ _ c.ensure_room.ensures.room c.if-self-bytes.true (le_refl _) inside;
      failures_monotone = le_refl 0;
      same_loans = c.ensure_room.ensures.loans;
    }

pub returns-clause-piece : goal.returns-clause-piece
returns-clause-piece g c =
    let self = c.ensure_room.new.self in
    let piece = c.args.bytes.now in
    let fits = self.fits in
    let inside = self.inside in
    let counts = self.counts in
    let room = c.if-self-bytes.false in
    let some : 0 < length piece = let empty = c.is_empty.ensures in let not = c.if-is_empty.false in search rules in
    let held : self.held ≤ length self.block = omega arith in
    record {
      ok = adds-held g.W.Write.contents _ self _ piece _ c.ensure_room.ensures.room room (search rules) some refl (held-grows self.held _ _ self.block _ piece c.copy_piece.ensures refl held) (omega arith) refl counts fits refl;
      err = tt;
      failures_monotone = le_refl 0;
      same_loans = c.ensure_room.ensures.loans;
    }
