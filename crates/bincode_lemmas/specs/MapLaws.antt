-- Maps: their entries in order are what they mean, and the entries of a word, inserted in order, are what it decodes
-- to.
use Rattle.std.specs.Prelude.{◌≡◌, ℕ, ◌+◌, ◌≤◌, ◌&&◌, Bool, true, List, [], ◌++◌, length, map, refl}
use Rattle.std.specs.declared.cmp.Ordering.{Ordering}
use Rattle.std.specs.Ordering.{is_eq}
use Rattle.std.specs.Cmp.{IsTotalOrder}
use Rattle.std.specs.Cmp.Lexicographic.{pointwise, as_long}
use Rattle.std.specs.Cmp.Derive.Mapped.{pointwise-map}
use Rattle.std.specs.List.{All}
use Rattle.std.specs.List.Sorted.{IsStrictlySortedBy}
use Rattle.std.specs.Map.{keys_of}
use Rattle.std.proofs.Common.{sym, ◌∙◌, ap, subst, arith, length-append}
use Rattle.std.proofs.lemmas.Bool.{and_parts}
use Rattle.std.proofs.lemmas.List.Elements.{All-nil}
use Rattle.bincode_base.specs.Setting.{Setting}
use Rattle.bincode_spec.specs.Format.{Format}
use Rattle.bincode_spec.specs.Meaning.{Meaning}
use Rattle.bincode_spec.specs.Words.{list}
use Rattle.bincode_spec.specs.Allowed.{IsShortest}
use Rattle.bincode_lemmas.specs.Sequences.{Both}
use Rattle.bincode_spec.specs.Run.{IsListOf}
use Rattle.bincode_lemmas.specs.Sequences.{AllowsEach}
use Rattle.bincode_spec.specs.Collections.{AreValid, IsMadeOf, MakesMap, put_entries}
use Rattle.bincode_lemmas.specs.RunAllowedLaws.{run-same}
use Rattle.bincode_lemmas.specs.ListLaws.{list-shortest}
use Rattle.bincode_lemmas.specs.LaidLaws.{each-laid, laid-each}
use Rattle.bincode_lemmas.specs.OrderLaws.{sorted-put_entries, sorted-equal, map-put_entries, All-put_entries, put_entries-charged, length-put_entries}
use Rattle.bincode_lemmas.specs.PairLaws.{pair_of, IsPair}
use Rattle.bincode_lemmas.specs.ReadLaws.{ReadsAs, fewer-read, pair-reads, reads-pair}

-- entries that are inserted in order have words that are no longer, if a word of an entry is one of its key and one of
-- its value: a key that stays keeps its word
module _ {K V : Type 0} (cmp : K → K → Ordering) (Keys : K → List ℕ → Type 0) (Values : V → List ℕ → Type 0) (Allowed : K × V → List ℕ → Type 0) where
  pub put_entries-allowed : ((e : K × V) (bytes : List ℕ) → Allowed e bytes → Both (Keys e.0) (Values e.1) bytes) →
      ((e : K × V) (bytes : List ℕ) → Both (Keys e.0) (Values e.1) bytes → Allowed e bytes) → (items : List (K × V)) (bytes : List ℕ) → AllowsEach Allowed items bytes →
      (other : List ℕ) × AllowsEach Allowed (put_entries cmp [] items) other × (length other ≤ length bytes)
  put_entries-allowed split join items bytes a =
      let key : K × List ℕ → K = λ x. x.0 in
      let value : V × List ℕ → V = λ x. x.0 in
      let plain : (K × List ℕ) × (V × List ℕ) → K × V = λ x. (x.0.0, x.1.0) in
      let IsKey : K × List ℕ → Type 0 = λ x. Keys x.0 x.1 in
      let IsValue : V × List ℕ → Type 0 = λ x. Values x.0 x.1 in
      let IsLaid : (K × List ℕ) × (V × List ℕ) → Type 0 = λ x. IsKey x.0 × IsValue x.1 in
      let weight : (K × List ℕ) × (V × List ℕ) → ℕ = λ x. length x.0.1 + length x.1.1 in
      let told : K × List ℕ → K × List ℕ → Ordering = λ x y. cmp x.0 y.0 in
      let p = each-laid Allowed plain IsLaid weight
      (λ e x b. let c = split e x b in (((e.0, c.0), (e.1, c.1)), refl, (c.3, c.4), ap length c.2 ∙ length-append c.0 c.1)) items bytes a in
      let put = put_entries told [] p.0 in
      let r = laid-each Allowed plain IsLaid weight (λ x h. (x.0.1 ++ x.1.1, join (plain x) (x.0.1 ++ x.1.1) (x.0.1, x.1.1, refl, h.0, h.1), length-append x.0.1 x.1.1)) put
      (All-put_entries told IsKey IsValue [] p.0 (All-nil IsLaid) p.2) in
      let e : map plain put ≡ put_entries cmp [] items = map-put_entries cmp key value [] p.0 ∙ ap (put_entries cmp []) (sym p.1) in
      (r.0, subst (λ l. AllowsEach Allowed l r.0) e r.1, omega (arith, r.2, p.3, put_entries-charged told (λ x. length x.1) (λ x. length x.1) [] p.0))

module _ {K V : Type 0} (cmp : K → K → Ordering) (eq : K → K → Bool) (total : IsTotalOrder cmp) (matches : (x y : K) → eq x y ≡ is_eq (cmp x y)) (Valid : K × V → Type 0) where
  -- what decodes to what a map in order means are its entries, if keys come back equal
  module _ (Means DecodesTo : K × V → Meaning → Type 0) (keys_come_back : (v w : K × V) (m : Meaning) → Valid v → Means v m → DecodesTo w m → eq v.0 w.0 ≡ true) where
    given_entries : (entries items others : List (K × V)) (m : Meaning) → IsStrictlySortedBy cmp (keys_of entries) → All Valid entries → IsListOf Means entries m →
        others ≡ put_entries cmp [] items → IsListOf DecodesTo items m → (length entries ≡ length others) × (others ≡ items)
    given_entries entries items others m s h i e j =
        let alike = run-same Means DecodesTo Valid (λ x. Unit {0}) (λ x y. eq x.0 y.0) (λ v w n p q. keys_come_back v w n p) entries items h (λ k d lt. tt) m i j in
        let keys = pointwise-map (λ x. x.0) eq entries items ∙ alike in
        let are : others ≡ items = e ∙ sorted-put_entries cmp total items (sorted-equal cmp total eq matches (keys_of entries) (keys_of items) keys s) in
        (as_long (λ x y. eq x.0 y.0) entries items alike ∙ ap length (sym are), are)

  -- a map comes back equal, if its keys and its values do
  pub map-comes_back : (same : V → V → Bool) (Means DecodesTo : K × V → Meaning → Type 0) →
      ((v w : K × V) (m : Meaning) → Valid v → Means v m → DecodesTo w m → eq v.0 w.0 && same v.1 w.1 ≡ true) → (entries others : List (K × V)) (m : Meaning) →
      IsStrictlySortedBy cmp (keys_of entries) → All Valid entries → IsListOf Means entries m → IsMadeOf (MakesMap cmp) DecodesTo others m →
      pointwise (λ x y. eq x.0 y.0 && same x.1 y.1) entries others ≡ true
  map-comes_back same Means DecodesTo comes_back entries others m s h i (items, e, j) =
      let keys : (v w : K × V) (n : Meaning) → Valid v → Means v n → DecodesTo w n → eq v.0 w.0 ≡ true = λ v w n p q r. (and_parts (eq v.0 w.0) (same v.1 w.1) (comes_back v w n p q r)).0 in
      let g = given_entries Means DecodesTo keys entries items others m s h i e j in
      let alike = run-same Means DecodesTo Valid (λ x. Unit {0}) (λ x y. eq x.0 y.0 && same x.1 y.1) (λ v w n p q. comes_back v w n p) entries items h (λ k d lt. tt) m i j in
      subst (λ l. pointwise (λ x y. eq x.0 y.0 && same x.1 y.1) entries l ≡ true) (sym g.1) alike

  -- no word that decodes to it is shorter, if none of an entry is: of words of equal keys those of the first key and of
  -- the last value count
  module _ (Means : K × V → Meaning → Type 0) (GivenKey : K → Meaning → Type 0) (GivenValue : V → Meaning → Type 0) where
    abbrev DecodesTo : K × V → Meaning → Type 0
    DecodesTo e = IsPair (GivenKey e.0) (GivenValue e.1)

    pub map-shortest : ((v w : K × V) (m : Meaning) → Valid v → Means v m → DecodesTo w m → eq v.0 w.0 ≡ true) → (s : Setting) (share : ℕ) (F G : Format Meaning) →
        ((v w : K × V) → Valid v → IsShortest (Means v) (DecodesTo w) (pair_of F G)) → (entries others : List (K × V)) → AreValid Valid entries →
        IsStrictlySortedBy cmp (keys_of entries) → IsShortest (IsListOf Means entries) (IsMadeOf (MakesMap cmp) DecodesTo others) (list s share (pair_of F G))
    map-shortest keys_come_back s share F G least entries others h sorted written bytes m steps w below u (items, e, i) =
        let H = pair_of F G in
        let Reads : K × V → List ℕ → Type 0 = λ v. ReadsAs (DecodesTo v) H in
        let made = w.is_meant.1 in
        let g = given_entries Means DecodesTo keys_come_back entries made.0 others w.meaning sorted h.1 w.is_meant.0 made.1 made.2 in
        let given = subst (λ l. IsListOf DecodesTo l w.meaning) (sym g.1) made.2 in
        let fewer : length others ≤ length items = omega (arith, length-put_entries cmp items, ap length e) in
        let put = put_entries-allowed cmp (λ k. ReadsAs (GivenKey k) F) (λ v. ReadsAs (GivenValue v) G) Reads
        (λ x. pair-reads (GivenKey x.0) (GivenValue x.1) F G) (λ x. reads-pair (GivenKey x.0) (GivenValue x.1) F G) items in
        let r = fewer-read DecodesTo share H s items others fewer (omega (arith, h.0, g.0))
        (λ x a. subst (λ l. (other : List ℕ) × AllowsEach Reads l other × (length other ≤ length x)) (sym e) (put x a)) bytes
        (record { meaning = m; steps = steps; are_bytes = below; is_word = u; is_decoded = i }) in
        let l = list-shortest Means s share H DecodesTo Valid least entries others h.1 written r.0 r.1.meaning r.1.steps
        (record { meaning = w.meaning; is_meant = (w.is_meant.0, given); is_written = w.is_written }) r.1.are_bytes r.1.is_word r.1.is_decoded in
        omega (arith, l, r.2)
