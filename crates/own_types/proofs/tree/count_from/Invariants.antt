use Rattle.std.proofs.Common.{◌≡◌, ◌+◌, drop}
use Rattle.own_types.specs.Trees.{counts_up}
use Rattle.own_types.proofs.tree.count_from.Given as goal

abbrev pub invariant-loop-place : goal.invariant-loop-place
invariant-loop-place l = counts_up l.next l.children ≡ counts_up (l.next + l.place) (drop l.place l.children)
