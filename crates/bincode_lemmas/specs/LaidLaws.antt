-- The values of a run beside their words, so that both can be reordered together.
use Rattle.std.specs.Prelude.{◌≡◌, ℕ, List, [], ◌∷◌, ◌++◌, length, map, refl}
use Rattle.std.specs.List.{All, sum_by, swap}
use Rattle.std.specs.List.Sorted.{IsPermutation}
use Rattle.std.proofs.Common.{sym, ◌∙◌, ap, subst, arith, length-append}
use Rattle.std.proofs.Math.ListN.{set, get_or, get_or-map}
use Rattle.std.proofs.lemmas.List.{map-set, length-map}
use Rattle.std.proofs.lemmas.List.Elements.{All-nil, All-cons, All-head, All-tail}
use Rattle.std.proofs.lemmas.List.Sums.{sum_by-cons}
use Rattle.std.proofs.lemmas.List.Sorted.{IsPermutation-refl, IsPermutation-trans, IsPermutation-swap, IsPermutation-keeps, All-permutation, sum_by-IsPermutation}
use Rattle.bincode_lemmas.specs.Sequences.{AllowsEach}

-- each value of a run beside its word: the value and the length of the word can be read off it

module _ {A W : Type 0} (Allowed : A → List ℕ → Type 0) (plain : W → A) (IsLaid : W → Type 0) (weight : W → ℕ) where
  pub each-laid : ((v : A) (bytes : List ℕ) → Allowed v bytes → (x : W) × (v ≡ plain x) × IsLaid x × (length bytes ≡ weight x)) →
      (vs : List A) (bytes : List ℕ) → AllowsEach Allowed vs bytes → (xs : List W) × (vs ≡ map plain xs) × All IsLaid xs × (length bytes ≡ sum_by weight xs)
  each-laid lay [] bytes a = ([], refl, All-nil IsLaid, ap length a)
  each-laid lay (v ∷ vs) bytes (x, y, e, a, b) =
      let p = lay v x a in
      let q = each-laid lay vs y b in
      let l : length bytes ≡ sum_by weight (p.0 ∷ q.0) = omega (arith, ap length e, length-append x y, p.3, q.3, sum_by-cons weight p.0 q.0) in
      (p.0 ∷ q.0, (λ i. p.1 i ∷ q.1 i), All-cons IsLaid p.0 q.0 p.2 q.2, l)

  pub laid-each : ((x : W) → IsLaid x → (bytes : List ℕ) × Allowed (plain x) bytes × (length bytes ≡ weight x)) →
      (xs : List W) → All IsLaid xs → (bytes : List ℕ) × AllowsEach Allowed (map plain xs) bytes × (length bytes ≡ sum_by weight xs)
  laid-each take [] h = ([], refl, refl)
  laid-each take (x ∷ xs) h =
      let p = take x (All-head IsLaid x xs h) in
      let q = laid-each take xs (All-tail IsLaid x xs h) in
      (p.0 ++ q.0, (p.0, q.0, refl, p.1, q.1), omega (arith, length-append p.0 q.0, p.2, q.2, sum_by-cons weight x xs))

-- a permutation of what the values are is one of the values

module _ {A W : Type 0} (plain : W → A) where
  map_swap : (xs : List W) (i j : ℕ) → map plain (swap xs i j) ≡ swap (map plain xs) i j
  map_swap [] i j = refl
  map_swap (d ∷ ys) i j =
      let xs = d ∷ ys in
      let a = get_or xs j d in
      let b = get_or xs i d in
      map-set plain (set xs i a) j b
      ∙ ap (λ l. set l j (plain b)) (map-set plain xs i a)
      ∙ (λ t. set (set (map plain xs) i (sym (get_or-map plain xs j d) t)) j (sym (get_or-map plain xs i d) t))

  pub map-permuted : (xs : List W) (vs : List A) → IsPermutation (map plain xs) vs → (ys : List W) × IsPermutation xs ys × (vs ≡ map plain ys)
  map-permuted xs vs =
      IsPermutation-keeps (map plain xs) (λ l. (ys : List W) × IsPermutation xs ys × (l ≡ map plain ys)) (xs, IsPermutation-refl xs, refl) (λ l i j p q h.
      let long : length l ≡ length h.0 = ap length h.2 ∙ length-map h.0 plain in
      let moved = IsPermutation-swap h.0 (swap h.0 i j) i j (omega arith) (omega arith) refl in
      (swap h.0 i j, IsPermutation-trans xs h.0 (swap h.0 i j) h.1 moved, ap (λ k. swap k i j) h.2 ∙ sym (map_swap h.0 i j))) vs

-- a run in another order allows words of the same length
pub each-permuted : {A : Type 0} (Allowed : A → List ℕ → Type 0) (vs ws : List A) → IsPermutation vs ws → (bytes : List ℕ) → AllowsEach Allowed vs bytes →
    (other : List ℕ) × AllowsEach Allowed ws other × (length other ≡ length bytes)
each-permuted {A} Allowed vs ws moved bytes a =
    let plain : A × List ℕ → A = λ x. x.0 in
    let IsLaid : A × List ℕ → Type 0 = λ x. Allowed x.0 x.1 in
    let weight : A × List ℕ → ℕ = λ x. length x.1 in
    let p = each-laid Allowed plain IsLaid weight (λ v x b. ((v, x), refl, b, refl)) vs bytes a in
    let q = map-permuted plain p.0 ws (subst (λ l. IsPermutation l ws) p.1 moved) in
    let r = laid-each Allowed plain IsLaid weight (λ x h. (x.1, h, refl)) q.0 (All-permutation IsLaid p.0 q.0 q.1 p.2) in
    (r.0, subst (λ l. AllowsEach Allowed l r.0) (sym q.2) r.1, r.2 ∙ sum_by-IsPermutation weight p.0 q.0 q.1 ∙ sym p.3)
