-- A whole frame that ends after the first n bytes begins within the longest frame's reach before them, so what is done to
-- a file may be told by its end alone.
use Rattle.std.specs.Prelude.{◌≡◌, ◌⊎◌, ◌+◌, ◌-◌, ◌<◌, ◌≤◌, ℕ, List, drop, min, IsTrue}
use Rattle.std.proofs.Common.{arith, inl, inr, subst, sym}
use Rattle.std.proofs.lemmas.List.{drop-drop}
use Rattle.framed_store.specs.declared.surveying.Survey.{Survey}
use Rattle.framed_store.specs.Surveys.{frame_size}
use Rattle.stock_files.specs.declared.repairing.Plan.{Plan}
use Rattle.stock_files.specs.declared.repairing.Plan.TheVariants as plans
use Rattle.stock_files.specs.declared.repairing.Repair.{Repair}
use Rattle.stock_files.specs.Repairs.{BeginsWithLonger, EndsAfter, HasNothingToDrop, IsPlan, NoneEndsAfter, of_file}

module _ (most reach n : ℕ) (bytes : List ℕ) (enough : most + 8 ≤ reach + 1) where
  abbrev start : ℕ
  start = n - min n reach

  begins-late : (k : ℕ) → EndsAfter most bytes n k → start ≤ k
  begins-late k e =
      let size = e.0.0.0 in
      let longer = e.1 in
      omega (arith, size, longer, enough)

  to-file : (k : ℕ) → EndsAfter most (drop start bytes) (min n reach) k → EndsAfter most bytes n (start + k)
  to-file k e =
      let place : min n reach - k ≡ n - (start + k) = omega arith in
      subst (λ z. BeginsWithLonger most z (n - (start + k))) (drop-drop k start bytes) (subst (BeginsWithLonger most (drop k (drop start bytes))) place e)

  to-end : (k : ℕ) → EndsAfter most bytes n (start + k) → EndsAfter most (drop start bytes) (min n reach) k
  to-end k e =
      let place : n - (start + k) ≡ min n reach - k = omega arith in
      subst (BeginsWithLonger most (drop k (drop start bytes))) place (subst (λ z. BeginsWithLonger most z (n - (start + k))) (sym (drop-drop k start bytes)) e)

  -- where it begins, counted from there
  at-end : (k : ℕ) → EndsAfter most bytes n k → EndsAfter most (drop start bytes) (min n reach) (k - start)
  at-end k e =
      let late = begins-late k e in
      let same : k ≡ start + (k - start) = omega (arith, late) in
      to-end (k - start) (subst (EndsAfter most bytes n) same e)

  none-later : NoneEndsAfter most (drop start bytes) (min n reach) → NoneEndsAfter most bytes n
  none-later none = λ k e. none (k - start) (at-end k e)

  nothing-to-drop : (found : Survey) (repair : Repair) → HasNothingToDrop most found (drop start bytes) (min n reach) repair → HasNothingToDrop most found bytes n repair
  nothing-to-drop found repair nothing = λ drops. let h = nothing drops in (h.0, none-later h.1)

  -- the plan for the file's end is that for the file
  pub plan-of-file : (found : Survey) (repair : Repair) (plan : Plan) → IsPlan most found (drop start bytes) (min n reach) repair plan → IsPlan most found bytes n repair (of_file start plan)
  plan-of-file found repair plans.Leave p = (p.0, nothing-to-drop found repair p.1)
  plan-of-file found repair plans.Cut p = (p.0, nothing-to-drop found repair p.1, elim p.2 [ inl none ↦ inl (none-later none) | inr cuts ↦ inr cuts ])
  plan-of-file found repair plans.Rewrite p = (p.0, elim p.1 [ inl damaged ↦ inl damaged | inr late ↦ inr (start + late.0, to-file late.0 late.1) ])
  plan-of-file found repair (plans.Refuse after) p = (
    p.0,
    p.1,
    p.2,
    to-file after p.3,
    λ k less e. let late = begins-late k e in p.4 (k - start) (omega (arith, less, late)) (at-end k e),
  )
