use Rattle.std.proofs.Common.{◌≡◌, ◌<◌, ◌++◌, length, reverse}
use Rattle.std.specs.List.{All, flat_map}
use Rattle.own_types.specs.Trees.{below, depth_first}
use Rattle.own_types.proofs.tree.Tree.depth_first.Given as goal

abbrev pub invariant-loop-index : goal.invariant-loop-index
invariant-loop-index l = record {
  within : All (λ i. i < length l.self.nodes.list.items) l.waiting.items;
  left : l.values.items ++ flat_map (λ i. below (length l.self.nodes.list.items) l.self.nodes.list.items i) (reverse l.waiting.items) ≡ depth_first l.self.nodes.list.items;
}

abbrev pub decreases-loop-index : goal.decreases-loop-index
decreases-loop-index l = length (flat_map (λ i. below (length l.self.nodes.list.items) l.self.nodes.list.items i) (reverse l.waiting.items))
