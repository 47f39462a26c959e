use Rattle.std.proofs.Common.{◌<◌, ℕ}
use Rattle.framed_store.specs.Searches.{StandsAt}
use Rattle.framed_store.proofs.searching.find_frame.Given as goal

abbrev pub invariant-loop-offset : goal.invariant-loop-offset
invariant-loop-offset l = (k : ℕ) → k < l.offset → ¬ StandsAt l.most l.bytes k
