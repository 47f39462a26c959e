use Rattle.std.specs.Prelude.{◌≡◌, ◌↔◌, ℕ, List, [], length, Option, Some, None, IfSome, IsTrue, Bool, ◌==◌}
use Rattle.std.proofs.Common.{arith, eq-eqb, eqb-true, sym, ◌∙◌}
use Rattle.std.proofs.lemmas.Grind.{common_steps}
use Rattle.std.proofs.KnownBytes.{Keeps-trans}
use Rattle.std.specs.Io.{StartsWith}
use Rattle.std.specs.Io.KnownBytes.{Keeps}
use Rattle.bincode.proofs.next.has_ended.Goals as goal

-- a stream is at its end exactly where it shows nothing
shows-nothing : (before now : Option (List ℕ)) (shown : List ℕ) (empty : Bool) → Keeps before now → IfSome now (λ xs. StartsWith xs shown) → IfSome now (λ xs. length shown ≡ 0 → xs ≡ []) →
    empty ≡ (length shown == 0) → IfSome before (λ left. IsTrue empty ↔ (left ≡ []))
shows-nothing None now shown empty kept front end is = tt
shows-nothing (Some left) None shown empty kept front end is = absurd kept
shows-nothing (Some left) (Some xs) shown empty kept front end is = (
  λ t. sym kept ∙ end (eqb-true (length shown) 0 (sym is ∙ t)),
  λ nothing.
      let none : xs ≡ [] = kept ∙ nothing in
      let short : length shown ≡ 0 = grind (arith, common_steps, front, none) in
      is ∙ eq-eqb (length shown) 0 short,
)

pub returns-in-Ok-clause-kept : goal.returns-in-Ok-clause-kept
returns-in-Ok-clause-kept g c = Keeps-trans _ _ _ c.loop.invariant c.fill_buf.follows.holds-at-none.0

pub returns-in-Ok-clause-end : goal.returns-in-Ok-clause-end
returns-in-Ok-clause-end g c = shows-nothing _ _ c.in-Ok.shown.now c.is_empty.result c.loop.invariant c.in-Ok.ensures.front c.in-Ok.ensures.end c.is_empty.ensures
