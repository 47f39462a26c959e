use Rattle.std.proofs.Common.{length, reverse}
use Rattle.own_types.specs.Trees.{depth_first}
use Rattle.own_types.proofs.TreeWalks.{one-round}
use Rattle.own_types.proofs.tree.Tree.depth_first.Goals as goal

pub loop-index-smaller : goal.loop-index-smaller
loop-index-smaller c =
    let nodes = c.args.self.now.nodes.list.items in
    (one-round nodes c.args.self.now.in_turn (depth_first nodes) c.loop-index.values.items c.loop-index.waiting.items c.pop.new.self.items c.push_reversed.new.waiting.items c.deref.result.now c.push.new.self.items
    c.in-Some.index c.index-node.result.now c.in-Some.ensures.items c.loop-index.invariant.within c.index-node.ensures c.deref.ensures.value c.in_ok-push_reversed.ensures c.in_ok-push.ensures.items
    c.loop-index.invariant.left).2

pub loop-index-preserved : goal.loop-index-preserved
loop-index-preserved c =
    let nodes = c.args.self.now.nodes.list.items in
    let round = one-round nodes c.args.self.now.in_turn (depth_first nodes) c.loop-index.values.items c.loop-index.waiting.items c.pop.new.self.items c.push_reversed.new.waiting.items c.deref.result.now c.push.new.self.items
    c.in-Some.index c.index-node.result.now c.in-Some.ensures.items c.loop-index.invariant.within c.index-node.ensures c.deref.ensures.value c.in_ok-push_reversed.ensures c.in_ok-push.ensures.items
    c.loop-index.invariant.left in
    record { within = round.0; left = round.1 }
