use Rattle.std.proofs.Common.{arith}
use Rattle.shape_grammar.proofs.Depths.{deepest-append}
use Rattle.shape_grammar.proofs.nested.Parts.push.Goals as goal

pub invariant_of-self : goal.invariant_of-self
invariant_of-self c = record { deep = (rw c.in_err-push.ensures.items (c.args.self.now.deep)) }

pub invariant_of-self-2 : goal.invariant_of-self-2
invariant_of-self-2 c =
    let both = deepest-append c.args.self.now.shapes.items c.args.part.shape in
    let deep = c.args.self.now.deep in
    let last = c.args.part.deep in
    let levels = c.max-levels.ensures in
    record { deep = (rw c.in_ok-push.ensures.items (omega (arith, both, deep, last, levels))) }
