use Rattle.std.proofs.Common.{◌∙◌, sym, ap, map}
use Rattle.own_types.specs.Trees.{children_of, is_tree}
use Rattle.own_types.specs.TreesRead.{tree-read}
use Rattle.own_types.proofs.tree.TreeValidate.validate.Goals as goal

pub returns-then-are_in_turn-clause-passes : goal.returns-then-are_in_turn-clause-passes
returns-then-are_in_turn-clause-passes c = λ m h.
    tree-read _ _ _ (λ node n l. l.0) c.args.nodes.list.items m h.0 ∙ ap (λ nodes. is_tree (map children_of nodes)) (sym c.deref.ensures.value) ∙ sym c.if-are_in_turn.ensures

pub returns-else-are_in_turn-clause-passes : goal.returns-else-are_in_turn-clause-passes
returns-else-are_in_turn-clause-passes c = λ m h.
    tree-read _ _ _ (λ node n l. l.0) c.args.nodes.list.items m h.0 ∙ ap (λ nodes. is_tree (map children_of nodes)) (sym c.deref.ensures.value) ∙ sym c.if-are_in_turn.ensures
