use Rattle.std.proofs.Common.{◌≡◌, length, take}
use Rattle.bincode_blocks.proofs.block_writer.copy_few.Given as goal

abbrev pub invariant-loop-at : goal.invariant-loop-at
invariant-loop-at l = (length l.target ≡ length l.piece) × (take l.at l.target ≡ take l.at l.piece)
