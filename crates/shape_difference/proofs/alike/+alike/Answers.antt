use Rattle.std.proofs.Common.{◌==◌, ◌∙◌, ap, sym}
use Rattle.bincode_shape.specs.declared.shape.Value.{items_hidden-the_row-Value-0}
use Rattle.shape_difference.specs.Listed.{tests-vec, length-tests, lengths-differ}
use Rattle.shape_difference.proofs.alike.+alike.Goals as goal

pub are_alike-returns-in-Unit-other : goal.are_alike-returns-in-Unit-other
are_alike-returns-in-Unit-other t c =
    rw (c.in-List.is, c.in-Unit-other.is, tests-vec c.in-List.items, length-tests c.in-List.items.items) (c.is_empty.ensures ∙ ap (λ n. n == 0) c.in-List.items.ok.0)

pub are_alike-returns-in-List-other : goal.are_alike-returns-in-List-other
are_alike-returns-in-List-other t c =
    rw (c.in-List.is, c.in-List-other.is, tests-vec c.in-List.items, items_hidden-the_row-Value-0 c.in-List-other.others)
    (rw (c.deref.ensures.value, c.deref-in-List-other.ensures.value) at c.is_each_alike.ensures)

pub is_each_alike-returns-then-items-others : goal.is_each_alike-returns-then-items-others
is_each_alike-returns-then-items-others t c = sym (lengths-differ c.args.items.now c.args.others.now c.if-items-others.true)
