use Rattle.std.proofs.Common.{◌≤◌, ◌<◌, ◌∷◌, arith, le_refl, length, refl, [], rules}
use Rattle.std.proofs.lemmas.List.{take_more_set}
use Rattle.bincode_blocks.proofs.Blocks.{no-room, adds-held}
use Rattle.bincode_blocks.proofs.block_writer.BlockWriterWriter.write_tag.Goals as goal

pub returns-then-self-clause-piece : goal.returns-then-self-clause-piece
returns-then-self-clause-piece g c =
    let full = c.if-self.true in
    let most = c.max.ensures in
    let inside : 1 ≤ length c.ensure_room.new.self.block = let whole = c.ensure_room.new.self.whole in omega arith in
    record {
      ok = tt;
      err = no-room g.W.Write.contents _ _ (c.args.byte ∷ []) _ c.ensure_room.ensures.room (omega arith) (omega arith) inside;
      failures_monotone = le_refl 0;
      same_loans = c.ensure_room.ensures.loans;
    }

pub returns-clause-piece : goal.returns-clause-piece
returns-clause-piece g c =
    let self = c.ensure_room.new.self in
    let piece = c.args.byte ∷ [] in
    let fits = self.fits in
    let inside = self.inside in
    let counts = self.counts in
    let most = c.max.ensures in
    let full = c.if-self.false in
    let held : self.held < length self.block = omega arith in
    record {
      ok = adds-held g.W.Write.contents _ self _ piece _ c.ensure_room.ensures.room (omega arith) (search rules) (omega arith) refl (take_more_set self.block self.held c.args.byte held) (omega arith) refl counts fits refl;
      err = tt;
      failures_monotone = le_refl 0;
      same_loans = c.ensure_room.ensures.loans;
    }
