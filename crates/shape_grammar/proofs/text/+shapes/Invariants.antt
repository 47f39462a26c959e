use Rattle.std.proofs.Common.{◌≡◌, ℕ, List, ◌+◌, ◌*◌, ◌≤◌}
use Rattle.shape_grammar.specs.Grammar.{Spells, Variants, Barred, Parts}
use Rattle.shape_grammar.specs.Marks.{Mark}
use Rattle.shape_grammar.proofs.text.+shapes.Given as goal

-- the levels that are left, and the place of a function in the order in which they call one another

abbrev pub decreases-any_shape : goal.decreases-any_shape
decreases-any_shape l = 6 * l.depth + 4

abbrev pub decreases-barred_shape : goal.decreases-barred_shape
decreases-barred_shape l = 6 * l.depth + 3

abbrev pub decreases-items : goal.decreases-items
decreases-items l = 6 * l.depth + 5

abbrev pub decreases-one_shape : goal.decreases-one_shape
decreases-one_shape l = 6 * l.depth + 1

abbrev pub decreases-optional_shape : goal.decreases-optional_shape
decreases-optional_shape l = 6 * l.depth + 2

abbrev pub decreases-parts : goal.decreases-parts
decreases-parts l = 6 * l.depth + 5

abbrev pub decreases-unbarred_shape : goal.decreases-unbarred_shape
decreases-unbarred_shape l = 6 * l.depth + 3

abbrev pub invariant-unbarred_shape-loop : goal.invariant-unbarred_shape-loop
invariant-unbarred_shape-loop l = record {
  same : l.depth ≡ l.fn.depth;
  levels : l.variants.levels ≤ l.depth;
  spelled : Spells Variants l.fn.scanner.rest.now l.variants.shapes.items l.scanner.rest.now;
}

abbrev pub invariant-barred_shape-loop : goal.invariant-barred_shape-loop
invariant-barred_shape-loop l = record {
  same : l.depth ≡ l.fn.depth;
  levels : l.variants.levels ≤ l.depth;
  spelled : (a : List ℕ) → Mark 124 a l.fn.scanner.rest.now → Spells Barred a l.variants.shapes.items l.scanner.rest.now;
}

abbrev pub invariant-parts-loop : goal.invariant-parts-loop
invariant-parts-loop l = record {
  same : l.depth ≡ l.fn.depth;
  levels : l.parts.levels ≤ l.depth;
  spelled : Spells Parts l.fn.scanner.rest.now l.parts.shapes.items l.scanner.rest.now;
}
