use Rattle.std.proofs.Common.{◌≡◌, ◌+◌, ◌∙◌, drop, sym, ap, arith, length, map}
use Rattle.own_types.specs.Trees.{children_of, names_next, is_in_turn}
use Rattle.own_types.proofs.TreeWalks.{turn-ends, turn-goes_on, names-tells}
use Rattle.own_types.proofs.tree.are_in_turn.Goals as goal

pub loop-index-preserved : goal.loop-index-preserved
loop-index-preserved c =
    let len = length c.args.nodes.now in
    let node = c.index-nodes-index.result in
    let named = ap (names_next len c.loop-index.index c.loop-index.next) (sym c.deref.ensures.value) ∙ sym c.if-not-does_name_next.ensures in
    let tells = names-tells len c.loop-index.index c.loop-index.next (children_of node) named in
    record {
      small = λ some. omega (arith, tells.1, c.len-next.ensures);
      same = c.loop-index.invariant.same ∙ turn-goes_on len c.loop-index.index c.loop-index.next c.args.nodes.now node c.loop-index-test.true c.index-nodes-index.is named ∙ ap (λ n. is_in_turn len (c.loop-index.index + 1) (c.loop-index.next + n) (drop (c.loop-index.index + 1) (map children_of c.args.nodes.now))) (ap length (sym c.deref.ensures.value) ∙ c.deref.ensures.len ∙ sym c.len-next.ensures);
    }

pub returns-then-not-does_name_next : goal.returns-then-not-does_name_next
returns-then-not-does_name_next c =
    let len = length c.args.nodes.now in
    let node = c.index-nodes-index.result in
    let fails = ap (names_next len c.loop-index.index c.loop-index.next) (sym c.deref.ensures.value) ∙ sym c.if-not-does_name_next.ensures in
    sym (c.loop-index.invariant.same ∙ turn-ends len c.loop-index.index c.loop-index.next c.args.nodes.now node c.loop-index-test.true c.index-nodes-index.is fails)
