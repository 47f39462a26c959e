use Rattle.std.proofs.Common.{◌≡◌, ◌≤◌, ℕ, List, [], ◌∷◌}
use Rattle.shape_grammar.specs.Grammar.{Spells, Marked}
use Rattle.shape_grammar.proofs.text.question_marks.Given as goal

abbrev pub invariant-loop : goal.invariant-loop
invariant-loop l = record {
  levels : l.part.levels ≤ l.depth;
  same : l.depth ≡ l.fn.depth;
  spelled : (a : List ℕ) → Spells Marked a (l.fn.part.shape ∷ []) l.fn.scanner.rest.now → Spells Marked a (l.part.shape ∷ []) l.scanner.rest.now;
}
