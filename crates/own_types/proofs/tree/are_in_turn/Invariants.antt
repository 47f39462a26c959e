use Rattle.std.proofs.Common.{◌≡◌, ◌+◌, ◌<◌, ◌≤◌, map, length, drop}
use Rattle.own_types.specs.Trees.{is_in_turn, is_tree, children_of}
use Rattle.own_types.proofs.tree.are_in_turn.Given as goal

abbrev pub invariant-loop-index : goal.invariant-loop-index
invariant-loop-index l = record {
  small : 0 < l.len → l.next ≤ l.len;
  same : is_tree (map children_of l.nodes) ≡ is_in_turn l.len l.index l.next (drop l.index (map children_of l.nodes));
}
