-- Sets: their keys in order are what they mean, and the keys of a word, inserted in order, are what it decodes to.
use Rattle.std.specs.Prelude.{◌≡◌, ℕ, ◌≤◌, Bool, true, List, [], length, map, refl}
use Rattle.std.specs.declared.cmp.Ordering.{Ordering}
use Rattle.std.specs.Ordering.{is_eq}
use Rattle.std.specs.Cmp.{IsTotalOrder}
use Rattle.std.specs.Cmp.Lexicographic.{pointwise, as_long}
use Rattle.std.specs.List.{All}
use Rattle.std.specs.List.Sorted.{IsStrictlySortedBy}
use Rattle.std.proofs.Common.{sym, ◌∙◌, ap, subst, arith}
use Rattle.std.proofs.lemmas.List.Elements.{All-nil}
use Rattle.bincode_base.specs.Setting.{Setting}
use Rattle.bincode_spec.specs.Format.{Format}
use Rattle.bincode_spec.specs.Meaning.{Meaning}
use Rattle.bincode_spec.specs.Words.{list}
use Rattle.bincode_spec.specs.Allowed.{IsShortest}
use Rattle.bincode_spec.specs.Run.{IsListOf}
use Rattle.bincode_lemmas.specs.Sequences.{AllowsEach}
use Rattle.bincode_spec.specs.Collections.{AreValid, IsMadeOf, MakesSet, put_keys}
use Rattle.bincode_lemmas.specs.RunAllowedLaws.{run-same}
use Rattle.bincode_lemmas.specs.ListLaws.{list-shortest}
use Rattle.bincode_lemmas.specs.LaidLaws.{each-laid, laid-each}
use Rattle.bincode_lemmas.specs.OrderLaws.{sorted-put_keys, sorted-equal, map-put_keys, All-put_keys, put_keys-charged, length-put_keys}
use Rattle.bincode_lemmas.specs.ReadLaws.{ReadsAs, fewer-read}

-- the keys that inserting leaves have words that are no longer
pub put_keys-allowed : {K : Type 0} (cmp : K → K → Ordering) (Allowed : K → List ℕ → Type 0) (items : List K) (bytes : List ℕ) → AllowsEach Allowed items bytes →
    (other : List ℕ) × AllowsEach Allowed (put_keys cmp [] items) other × (length other ≤ length bytes)
put_keys-allowed {K} cmp Allowed items bytes a =
    let plain : K × List ℕ → K = λ x. x.0 in
    let IsLaid : K × List ℕ → Type 0 = λ x. Allowed x.0 x.1 in
    let weight : K × List ℕ → ℕ = λ x. length x.1 in
    let told : K × List ℕ → K × List ℕ → Ordering = λ x y. cmp x.0 y.0 in
    let p = each-laid Allowed plain IsLaid weight (λ v x b. ((v, x), refl, b, refl)) items bytes a in
    let put = put_keys told [] p.0 in
    let r = laid-each Allowed plain IsLaid weight (λ x h. (x.1, h, refl)) put (All-put_keys told IsLaid [] p.0 (All-nil IsLaid) p.2) in
    let e : map plain put ≡ put_keys cmp [] items = map-put_keys cmp plain [] p.0 ∙ ap (put_keys cmp []) (sym p.1) in
    (r.0, subst (λ l. AllowsEach Allowed l r.0) e r.1, omega (arith, r.2, p.3, put_keys-charged told weight [] p.0))

module _ {K : Type 0} (cmp : K → K → Ordering) (eq : K → K → Bool) (total : IsTotalOrder cmp) (matches : (x y : K) → eq x y ≡ is_eq (cmp x y)) where
  module _ (Means DecodesTo : K → Meaning → Type 0) (Valid : K → Type 0) (comes_back : (v w : K) (m : Meaning) → Valid v → Means v m → DecodesTo w m → eq v w ≡ true) where
    items_same : (keys items : List K) (m : Meaning) → All Valid keys → IsListOf Means keys m → IsListOf DecodesTo items m → pointwise eq keys items ≡ true
    items_same keys items m h = run-same Means DecodesTo Valid (λ k. Unit {0}) eq (λ v w n p q. comes_back v w n p) keys items h (λ k d lt. tt) m

    -- what decodes to what a set in order means are its keys
    given_keys : (keys others : List K) (m : Meaning) → IsStrictlySortedBy cmp keys → All Valid keys → IsListOf Means keys m → IsMadeOf (MakesSet cmp) DecodesTo others m →
        (pointwise eq keys others ≡ true) × IsListOf DecodesTo others m
    given_keys keys others m s h i (items, e, j) =
        let same = items_same keys items m h i j in
        let are : others ≡ items = e ∙ sorted-put_keys cmp total items (sorted-equal cmp total eq matches keys items same s) in
        (subst (λ l. pointwise eq keys l ≡ true) (sym are) same, subst (λ l. IsListOf DecodesTo l m) (sym are) j)

    -- a set comes back equal
    pub set-comes_back : (keys others : List K) (m : Meaning) → IsStrictlySortedBy cmp keys → All Valid keys → IsListOf Means keys m →
        IsMadeOf (MakesSet cmp) DecodesTo others m → pointwise eq keys others ≡ true
    set-comes_back keys others m s h i j = (given_keys keys others m s h i j).0

    -- no word that decodes to it is shorter, if none of a key is
    pub set-shortest : (s : Setting) (share : ℕ) (F : Format Meaning) → ((v w : K) → Valid v → IsShortest (Means v) (DecodesTo w) F) →
        (keys others : List K) → AreValid Valid keys → IsStrictlySortedBy cmp keys → IsShortest (IsListOf Means keys) (IsMadeOf (MakesSet cmp) DecodesTo others) (list s share F)
    set-shortest s share F least keys others h sorted written bytes m steps w below u (items, e, i) =
        let g = given_keys keys others w.meaning sorted h.1 w.is_meant.0 w.is_meant.1 in
        let long : length keys ≡ length others = as_long eq keys others g.0 in
        let fewer : length others ≤ length items = omega (arith, length-put_keys cmp items, ap length e) in
        let r = fewer-read DecodesTo share F s items others fewer (omega (arith, h.0, long))
        (λ x a. subst (λ l. (other : List ℕ) × AllowsEach (λ v. ReadsAs (DecodesTo v) F) l other × (length other ≤ length x)) (sym e) (put_keys-allowed cmp (λ v. ReadsAs (DecodesTo v) F) items x a)) bytes
        (record { meaning = m; steps = steps; are_bytes = below; is_word = u; is_decoded = i }) in
        let l = list-shortest Means s share F DecodesTo Valid least keys others h.1 written r.0 r.1.meaning r.1.steps
        (record { meaning = w.meaning; is_meant = (w.is_meant.0, g.1); is_written = w.is_written }) r.1.are_bytes r.1.is_word r.1.is_decoded in
        omega (arith, l, r.2)
