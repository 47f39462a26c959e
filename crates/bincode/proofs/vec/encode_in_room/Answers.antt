use Rattle.std.proofs.Common.{arith, sym}
use Rattle.bincode.proofs.Empty.{room-empty}
use Rattle.bincode.proofs.vec.encode_in_room.Goals as goal

pub loop-writer-init : goal.loop-writer-init
loop-writer-init g c = λ none one empty. none

pub returns-in_err-writer-clause-empty : goal.returns-in_err-writer-clause-empty
returns-in_err-writer-clause-empty g c = λ none one empty.
    let some = c.in_err-writer.ensures.none (c.loop-writer.invariant none one empty) in
    absurd (cc)

pub loop-writer-smaller : goal.loop-writer-smaller
loop-writer-smaller g c = let small = c.in_ok-writer.ensures.room.1 in omega arith

pub loop-writer-preserved : goal.loop-writer-preserved
loop-writer-preserved g c = λ none one empty.
    absurd (room-empty _ one empty _ _ _ _ c.in-Err.ensures.err c.in_ok-writer.ensures.start.1 (sym c.if-has_refused.ensures))
