use Rattle.std.proofs.Common.{ap, refl, arith, ◌∙◌}
use Rattle.shape_grammar.specs.Grammar.{brackets}
use Rattle.shape_grammar.proofs.Readings.{as_rest, unit-of, any-of, two-variants, more-variants, choice-of, marked-of, first-barred, more-barred, barred_choice-of, as_front, first-part, more-parts, tuple-of, tuple_comma-of, list-of, array-of}
use Rattle.shape_grammar.proofs.text.+shapes.Goals as goal
use Rattle.shape_grammar.proofs.text.+shapes.Goals.{items-then-takes+in_ok-len, items-else-takes}

pub any_shape-returns-else-takes-clause-spelled : goal.any_shape-returns-else-takes-clause-spelled
any_shape-returns-else-takes-clause-spelled t c =
    as_front c.args.scanner.now.rest.now _ c.unbarred_shape.new.scanner.rest.now c.unbarred_shape.result (ap (λ s. s.rest.now) (c.takes.ensures.left c.if-takes.false)) c.unbarred_shape.ensures.spelled

pub barred_shape-loop-init : goal.barred_shape-loop-init
barred_shape-loop-init t c =
    let none = c.new-variants.ensures.levels in
    let pushed = c.in_ok-push.ensures.levels in
    let first = c.in_ok-optional_shape.ensures.levels in
    record {
      same = refl;
      levels = omega (arith, none, pushed, first);
      spelled = λ a m. first-barred a _ _ _ _ _ c.new-variants.ensures.shapes c.in_ok-push.ensures.shapes m c.in_ok-optional_shape.ensures.spelled;
    }

pub barred_shape-returns-then-not-takes-clause-spelled : goal.barred_shape-returns-then-not-takes-clause-spelled
barred_shape-returns-then-not-takes-clause-spelled t c =
    barred_choice-of c.args.scanner.now.rest.now c.loop.scanner.rest.now _ c.loop.variants.shapes c.choice.result c.choice.ensures.shape
    (ap (λ s. s.rest.now) (c.takes.ensures.left c.if-not-takes.true)) c.loop.invariant.spelled

pub barred_shape-loop-preserved : goal.barred_shape-loop-preserved
barred_shape-loop-preserved t c =
    let before = c.loop.invariant.levels in
    let pushed = c.in_ok-push-2.ensures.levels in
    let last = c.in_ok-optional_shape-2.ensures.levels in
    record {
      same = refl;
      levels = omega (arith, before, pushed, last);
      spelled = λ a m. more-barred a _ _ _ _ _ _ c.in_ok-push-2.ensures.shapes (c.loop.invariant.spelled a m) (c.takes.ensures.taken c.if-not-takes.false) c.in_ok-optional_shape-2.ensures.spelled;
    }

pub unbarred_shape-returns-then-not-takes-clause-spelled : goal.unbarred_shape-returns-then-not-takes-clause-spelled
unbarred_shape-returns-then-not-takes-clause-spelled t c =
    any-of _ c.optional_shape.new.scanner.rest.now _ _ (ap (λ s. s.rest.now) (c.takes.ensures.left c.if-not-takes.true)) c.in_ok-first.ensures.spelled

pub unbarred_shape-loop-init : goal.unbarred_shape-loop-init
unbarred_shape-loop-init t c =
    let none = c.new-variants.ensures.levels in
    let first = c.in_ok-push.ensures.levels in
    let second = c.in_ok-push-2.ensures.levels in
    let first_levels = c.in_ok-first.ensures.levels in
    let second_levels = c.in_ok-second.ensures.levels in
    record {
      same = refl;
      levels = omega (arith, none, first, second, first_levels, second_levels);
      spelled = two-variants _ _ _ _ c.in_ok-first.first.shape c.in_ok-second.second.shape _ _ _ c.new-variants.ensures.shapes c.in_ok-push.ensures.shapes c.in_ok-push-2.ensures.shapes
          c.in_ok-first.ensures.spelled (c.takes.ensures.taken c.if-not-takes.false) c.in_ok-second.ensures.spelled;
    }

pub unbarred_shape-returns-then-not-takes-2-clause-spelled : goal.unbarred_shape-returns-then-not-takes-2-clause-spelled
unbarred_shape-returns-then-not-takes-2-clause-spelled t c =
    choice-of _ c.loop.scanner.rest.now _ c.loop.variants.shapes c.choice.result c.choice.ensures.shape
    (ap (λ s. s.rest.now) (c.takes-in-loop.ensures.left c.if-not-takes-2.true)) c.loop.invariant.spelled

pub unbarred_shape-loop-preserved : goal.unbarred_shape-loop-preserved
unbarred_shape-loop-preserved t c =
    let before = c.loop.invariant.levels in
    let pushed = c.in_ok-push-3.ensures.levels in
    let last = c.in_ok-optional_shape.ensures.levels in
    record {
      same = refl;
      levels = omega (arith, before, pushed, last);
      spelled = more-variants _ _ _ _ _ _ _ c.in_ok-push-3.ensures.shapes c.loop.invariant.spelled (c.takes-in-loop.ensures.taken c.if-not-takes-2.false) c.in_ok-optional_shape.ensures.spelled;
    }

pub optional_shape-returns-clause-spelled : goal.optional_shape-returns-clause-spelled
optional_shape-returns-clause-spelled t c =
    marked-of _ c.one_shape.new.scanner.rest.now _ c.in_ok-part.part.shape c.question_marks.result c.question_marks.ensures.spelled c.in_ok-part.ensures.spelled

pub one_shape-returns-then-takes-2-clause-spelled : goal.one_shape-returns-then-takes-2-clause-spelled
one_shape-returns-then-takes-2-clause-spelled t c =
    unit-of _ c.takes.new.self.rest.now _ _ c.innermost.ensures.shape (c.takes.ensures.taken c.if-takes.true) (c.takes-then-takes.ensures.taken c.if-takes-2.true)

pub parts-returns-then-takes-clause-spelled : goal.parts-returns-then-takes-clause-spelled
parts-returns-then-takes-clause-spelled t c = λ a m. brackets a c.args.scanner.now.rest.now _ _ _ m c.in_ok-first.ensures.spelled (c.takes.ensures.taken c.if-takes.true)

pub parts-loop-init : goal.parts-loop-init
parts-loop-init t c =
    let none = c.new-parts.ensures.levels in
    let first = c.in_ok-push.ensures.levels in
    let levels = c.in_ok-first.ensures.levels in
    record {
      same = refl;
      levels = omega (arith, none, first, levels);
      spelled = first-part _ c.any_shape.new.scanner.rest.now _ c.in_ok-first.first.shape _ _ c.new-parts.ensures.shapes c.in_ok-push.ensures.shapes
          (ap (λ s. s.rest.now) (c.takes.ensures.left c.if-takes.false)) c.in_ok-first.ensures.spelled;
    }

pub items-returns-clause-spelled : goal.items-returns-clause-spelled
items-returns-clause-spelled t c = λ a m.
    elim c.if-takes.branch [
      | items-then-takes+in_ok-len w ↦ array-of a c.args.scanner.now.rest.now c.any_shape.new.scanner.rest.now c.takes.new.self.rest.now w.length.new.scanner.rest.now c.takes-2.new.self.rest.now
          c.if-takes.scanner.rest.now w.in_ok-len.len c.claim_of-claim.result c.in_ok-element.element c.in_ok-read.read.shape c.if-takes.shape c.in_ok-element.ensures.ok c.claim_of-claim.ensures
          w.shape-is m c.in_ok-read.ensures.spelled (c.takes.ensures.taken w.if-takes.true) w.in_ok-len.ensures (ap (λ s. s.rest.now) w.scanner-is) (c.takes-2.ensures.taken c.if-not-takes.false)
      | items-else-takes w ↦ list-of a c.args.scanner.now.rest.now c.any_shape.new.scanner.rest.now c.takes-2.new.self.rest.now c.if-takes.scanner.rest.now
          c.claim_of-claim.result c.in_ok-element.element c.in_ok-read.read.shape c.if-takes.shape c.in_ok-element.ensures.ok c.claim_of-claim.ensures w.shape-is
          (ap (λ s. s.rest.now) (w.scanner-is ∙ c.takes.ensures.left w.if-takes.false)) m c.in_ok-read.ensures.spelled (c.takes-2.ensures.taken c.if-not-takes.false)
    ]

pub parts-returns-then-takes-2-clause-spelled : goal.parts-returns-then-takes-2-clause-spelled
parts-returns-then-takes-2-clause-spelled t c = λ a m.
    tuple_comma-of a c.args.scanner.now.rest.now c.loop.scanner.rest.now c.takes-in-loop.new.self.rest.now _ c.loop.parts.shapes _ c.tuple.ensures.shape m c.loop.invariant.spelled
    (c.takes-in-loop.ensures.taken c.if-not-takes.false) (c.takes-in-loop-2.ensures.taken c.if-takes-2.true)

pub parts-returns-then-takes-3-clause-spelled : goal.parts-returns-then-takes-3-clause-spelled
parts-returns-then-takes-3-clause-spelled t c = λ a m.
    let longer = more-parts c.args.scanner.now.rest.now c.loop.scanner.rest.now c.takes-in-loop.new.self.rest.now c.any_shape-in-loop.new.scanner.rest.now c.takes-in-loop-2.new.self.rest.now
    c.loop.parts.shapes.items c.push-in-loop.new.self.shapes.items c.in_ok-any_shape.field-0.shape c.in_ok-push-2.ensures.shapes
    (ap (λ s. s.rest.now) (c.takes-in-loop-2.ensures.left c.if-takes-2.false)) c.loop.invariant.spelled (c.takes-in-loop.ensures.taken c.if-not-takes.false) c.in_ok-any_shape.ensures.spelled in
    tuple-of a c.args.scanner.now.rest.now c.any_shape-in-loop.new.scanner.rest.now _ c.push-in-loop.new.self.shapes _ c.tuple-then-takes-3.ensures.shape m longer
    (c.takes-in-loop-3.ensures.taken c.if-takes-3.true)

pub parts-loop-preserved : goal.parts-loop-preserved
parts-loop-preserved t c =
    let before = c.loop.invariant.levels in
    let pushed = c.in_ok-push-2.ensures.levels in
    let last = c.in_ok-any_shape.ensures.levels in
    let longer = more-parts c.args.scanner.now.rest.now c.loop.scanner.rest.now c.takes-in-loop.new.self.rest.now c.any_shape-in-loop.new.scanner.rest.now c.takes-in-loop-2.new.self.rest.now
    c.loop.parts.shapes.items c.push-in-loop.new.self.shapes.items c.in_ok-any_shape.field-0.shape c.in_ok-push-2.ensures.shapes
    (ap (λ s. s.rest.now) (c.takes-in-loop-2.ensures.left c.if-takes-2.false)) c.loop.invariant.spelled (c.takes-in-loop.ensures.taken c.if-not-takes.false) c.in_ok-any_shape.ensures.spelled in
    record {
      same = refl;
      levels = omega (arith, before, pushed, last);
      spelled = as_rest (ap (λ s. s.rest.now) (c.takes-in-loop-3.ensures.left c.if-takes-3.false)) longer;
    }
