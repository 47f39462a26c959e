-- Hashed sets and maps: their order is not known, and a word decodes to what its items, inserted in order, make.
use Rattle.std.specs.Prelude.{◌≡◌, ℕ, ◌+◌, ◌≤◌, ◌||◌, ◌&&◌, ◌⊎◌, cond, Bool, true, false, List, [], ◌∷◌, ◌++◌, length, map, Option, MatchOption, refl}
use Rattle.std.specs.declared.option.Option.TheVariants.{None, Some}
use Rattle.std.specs.Bool.{MatchBool}
use Rattle.std.specs.Option.{option_eq}
use Rattle.std.specs.Cmp.{IsEquivalence}
use Rattle.std.specs.Cmp.Lexicographic.{pointwise, as_long}
use Rattle.std.specs.Cmp.Derive.Mapped.{pointwise-map}
use Rattle.std.specs.List.{All, AllByRecursion, IsDistinct, list_any, sum_by}
use Rattle.std.specs.List.Sorted.{IsPermutation}
use Rattle.std.specs.Map.{keys_of, lookup, set_value}
use Rattle.std.proofs.Common.{sym, ◌∙◌, ap, subst, arith, inl, inr, length-append, append-nil}
use Rattle.std.proofs.lemmas.Bool.{and_parts}
use Rattle.std.proofs.lemmas.List.Elements.{All-nil, All-cons, All-head, All-tail}
use Rattle.std.proofs.lemmas.List.Sums.{sum_by-cons}
use Rattle.std.proofs.lemmas.List.Sorted.{IsPermutation-refl, IsPermutation-sym, IsPermutation-trans, IsPermutation-map, IsPermutation-middle, IsPermutation-append_left, length_permutation, list_any-IsPermutation, All-permutation, sum_by-IsPermutation}
use Rattle.std.proofs.lemmas.Map.{length-set_value}
use Rattle.std.proofs.lemmas.Map.Keys.{IsDistinct-IsPermutation, IsDistinct-head, IsDistinct-tail, IsDistinct-cons}
use Rattle.bincode_base.specs.Setting.{Setting}
use Rattle.bincode_spec.specs.Format.{Format}
use Rattle.bincode_spec.specs.Meaning.{Meaning}
use Rattle.bincode_spec.specs.Words.{list}
use Rattle.bincode_spec.specs.Allowed.{IsShortest}
use Rattle.bincode_lemmas.specs.Sequences.{Both}
use Rattle.bincode_lemmas.specs.Sequences.{AllowsEach}
use Rattle.bincode_spec.specs.Collections.{AreValid, IsMadeOf, MakesBag}
use Rattle.bincode_spec.specs.Hashed.{PutsAll, PutsKey, PutsEntry, MakesHashedSet, MakesHashedMap}
use Rattle.bincode_lemmas.specs.BagLaws.{bag-shortest}
use Rattle.bincode_lemmas.specs.LaidLaws.{each-laid, laid-each, map-permuted}
use Rattle.bincode_lemmas.specs.PairLaws.{pair_of, IsPair}
use Rattle.bincode_lemmas.specs.ReadLaws.{ReadsAs, fewer-read, pair-reads, reads-pair}
use Rattle.bincode_lemmas.specs.RunAllowedLaws.{run-same}

-- there are no more than were inserted
puts-length : {A : Type 0} (Puts : List A → A → List A → Type 0) → ((before : List A) (x : A) (after : List A) → Puts before x after → length after ≤ length before + 1) →
    (before items after : List A) → PutsAll Puts before items after → length after ≤ length before + length items
puts-length Puts most before [] after p = omega (arith, ap length p)
puts-length Puts most before (x ∷ items) after (between, p, q) = omega (arith, most before x between p, puts-length Puts most between items after q)

-- inserted values beside their words: those that stay charge no more
module _ {A W : Type 0} (Puts : List A → A → List A → Type 0) (plain : W → A) (IsLaid : W → Type 0) (weight : W → ℕ) where
  abbrev Left : List A → ℕ → Type 0
  Left after most = (ys : List W) × (after ≡ map plain ys) × All IsLaid ys × (sum_by weight ys ≤ most)

  puts-laid : ((xs : List W) (x : W) (after : List A) → All IsLaid xs → IsLaid x → Puts (map plain xs) (plain x) after → Left after (sum_by weight xs + weight x)) →
      (xs items : List W) (after : List A) → All IsLaid xs → All IsLaid items → PutsAll Puts (map plain xs) (map plain items) after →
      Left after (sum_by weight xs + sum_by weight items)
  puts-laid put xs [] after h k p = (xs, p, h, omega arith)
  puts-laid put xs (x ∷ items) after h k (between, p, q) =
      let one = put xs x between h (All-head IsLaid x items k) p in
      let others = puts-laid put one.0 items after one.2 (All-tail IsLaid x items k) (subst (λ l. PutsAll Puts l (map plain items) after) one.1 q) in
      (others.0, others.1, others.2, omega (arith, others.3, one.3, sum_by-cons weight x items))

  -- one more, somewhere
  more-laid : (xs : List W) (x : W) (after : List A) → All IsLaid xs → IsLaid x → IsPermutation (plain x ∷ map plain xs) after → Left after (sum_by weight xs + weight x)
  more-laid xs x after h k p =
      let q = map-permuted plain (x ∷ xs) after p in
      (q.0, q.2, All-permutation IsLaid (x ∷ xs) q.0 q.1 (All-cons IsLaid x xs k h), omega (arith, sum_by-IsPermutation weight (x ∷ xs) q.0 q.1, sum_by-cons weight x xs))

-- inserting keys

module _ {K : Type 0} (eq : K → K → Bool) where
  key-length : (there : Bool) (before after : List K) (k : K) → MatchBool there (after ≡ before) (IsPermutation (k ∷ before) after) → length after ≤ length before + 1
  key-length true before after k p = omega (arith, ap length p)
  key-length false before after k p = omega (arith, length_permutation (k ∷ before) after p)

  pub length-hashed_set : (items keys : List K) → MakesHashedSet eq items keys → length keys ≤ length items
  length-hashed_set items keys p = omega (arith, puts-length (PutsKey eq) (λ before k after. key-length (list_any (eq k) before) before after k) [] items keys p)

  -- the keys that inserting leaves have words that are no longer
  module _ (Allowed : K → List ℕ → Type 0) where
    abbrev key : K × List ℕ → K
    key x = x.0

    abbrev KeyLaid : K × List ℕ → Type 0
    KeyLaid x = Allowed x.0 x.1

    abbrev key_weight : K × List ℕ → ℕ
    key_weight x = length x.1

    key-laid : (there : Bool) (xs : List (K × List ℕ)) (x : K × List ℕ) (after : List K) → All KeyLaid xs → KeyLaid x →
        MatchBool there (after ≡ map key xs) (IsPermutation (key x ∷ map key xs) after) → Left (PutsKey eq) key KeyLaid key_weight after (sum_by key_weight xs + key_weight x)
    key-laid true xs x after h k p = (xs, p, h, omega arith)
    key-laid false xs x after h k p = more-laid (PutsKey eq) key KeyLaid key_weight xs x after h k p

    pub hashed_set-allowed : (items keys : List K) → MakesHashedSet eq items keys → (bytes : List ℕ) → AllowsEach Allowed items bytes →
        (other : List ℕ) × AllowsEach Allowed keys other × (length other ≤ length bytes)
    hashed_set-allowed items keys made bytes a =
        let p = each-laid Allowed key KeyLaid key_weight (λ v x b. ((v, x), refl, b, refl)) items bytes a in
        let put = puts-laid (PutsKey eq) key KeyLaid key_weight (λ xs x. key-laid (list_any (eq (key x)) (map key xs)) xs x) [] p.0 keys (All-nil KeyLaid) p.2
        (subst (λ l. PutsAll (PutsKey eq) [] l keys) p.1 made) in
        let r = laid-each Allowed key KeyLaid key_weight (λ x h. (x.1, h, refl)) put.0 put.2 in
        (r.0, subst (λ l. AllowsEach Allowed l r.0) (sym put.1) r.1, omega (arith, r.2, p.3, put.3))

-- inserting entries
module _ {K V : Type 0} (eq : K → K → Bool) where
  entry-length : (old : Option V) (before after : List (K × V)) (e : K × V) → MatchOption old (IsPermutation (e ∷ before) after) (λ _. after ≡ set_value (eq e.0) before e.1) →
      length after ≤ length before + 1
  entry-length None before after e p = omega (arith, length_permutation (e ∷ before) after p)
  entry-length (Some v) before after e p = omega (arith, ap length p, length-set_value (eq e.0) before e.1)

  pub length-hashed_map : (items entries : List (K × V)) → MakesHashedMap eq items entries → length entries ≤ length items
  length-hashed_map items entries p = omega (arith, puts-length (PutsEntry eq) (λ before e after. entry-length (lookup (eq e.0) before) before after e) [] items entries p)

  -- entries that are inserted in order have words that are no longer, if a word of an entry is one of its key and one
  -- of its value: a key that stays keeps its word
  module _ (Keys : K → List ℕ → Type 0) (Values : V → List ℕ → Type 0) (Allowed : K × V → List ℕ → Type 0) where
    abbrev entry : (K × List ℕ) × (V × List ℕ) → K × V
    entry x = (x.0.0, x.1.0)

    abbrev EntryLaid : (K × List ℕ) × (V × List ℕ) → Type 0
    EntryLaid x = Keys x.0.0 x.0.1 × Values x.1.0 x.1.1

    abbrev entry_weight : (K × List ℕ) × (V × List ℕ) → ℕ
    entry_weight x = length x.0.1 + length x.1.1

    -- a key takes another value
    module _ (k : K) (value : V × List ℕ) where
      abbrev HasTaken : List ((K × List ℕ) × (V × List ℕ)) → Type 0
      HasTaken xs = Left (PutsEntry eq) entry EntryLaid entry_weight (set_value (eq k) (map entry xs) value.0) (sum_by entry_weight xs + length value.1)

      taken : (here : Bool) (x : (K × List ℕ) × (V × List ℕ)) (xs : List ((K × List ℕ) × (V × List ℕ))) → Values value.0 value.1 → All EntryLaid (x ∷ xs) → HasTaken xs →
          Left (PutsEntry eq) entry EntryLaid entry_weight (cond here ((x.0.0, value.0) ∷ map entry xs) (entry x ∷ set_value (eq k) (map entry xs) value.0))
          (sum_by entry_weight (x ∷ xs) + length value.1)
      taken true x xs v h others =
          let y : (K × List ℕ) × (V × List ℕ) = (x.0, value) in
          (y ∷ xs, refl, All-cons EntryLaid y xs ((All-head EntryLaid x xs h).0, v) (All-tail EntryLaid x xs h), omega (arith, sum_by-cons entry_weight x xs, sum_by-cons entry_weight y xs))
      taken false x xs v h (ys, e, laid, most) =
          (x ∷ ys, ap (λ l. entry x ∷ l) e, All-cons EntryLaid x ys (All-head EntryLaid x xs h) laid, omega (arith, most, sum_by-cons entry_weight x xs, sum_by-cons entry_weight x ys))

      value-taken : (xs : List ((K × List ℕ) × (V × List ℕ))) → Values value.0 value.1 → All EntryLaid xs → HasTaken xs
      value-taken [] v h = ([], refl, h, omega arith)
      value-taken (x ∷ xs) v h = taken (eq k x.0.0) x xs v h (value-taken xs v (All-tail EntryLaid x xs h))

    entry-laid : (old : Option V) (xs : List ((K × List ℕ) × (V × List ℕ))) (x : (K × List ℕ) × (V × List ℕ)) (after : List (K × V)) → All EntryLaid xs → EntryLaid x →
        MatchOption old (IsPermutation (entry x ∷ map entry xs) after) (λ _. after ≡ set_value (eq x.0.0) (map entry xs) x.1.0) →
        Left (PutsEntry eq) entry EntryLaid entry_weight after (sum_by entry_weight xs + entry_weight x)
    entry-laid None xs x after h k p = more-laid (PutsEntry eq) entry EntryLaid entry_weight xs x after h k p
    entry-laid (Some v) xs x after h k p =
        let t = value-taken x.0.0 x.1 xs k.1 h in
        (t.0, p ∙ t.1, t.2, omega (arith, t.3))

    pub hashed_map-allowed : ((e : K × V) (bytes : List ℕ) → Allowed e bytes → Both (Keys e.0) (Values e.1) bytes) →
        ((e : K × V) (bytes : List ℕ) → Both (Keys e.0) (Values e.1) bytes → Allowed e bytes) → (items entries : List (K × V)) → MakesHashedMap eq items entries →
        (bytes : List ℕ) → AllowsEach Allowed items bytes → (other : List ℕ) × AllowsEach Allowed entries other × (length other ≤ length bytes)
    hashed_map-allowed split join items entries made bytes a =
        let p = each-laid Allowed entry EntryLaid entry_weight
        (λ e x b. let c = split e x b in (((e.0, c.0), (e.1, c.1)), refl, (c.3, c.4), ap length c.2 ∙ length-append c.0 c.1)) items bytes a in
        let put = puts-laid (PutsEntry eq) entry EntryLaid entry_weight (λ xs x. entry-laid (lookup (eq x.0.0) (map entry xs)) xs x) [] p.0 entries (All-nil EntryLaid) p.2
        (subst (λ l. PutsAll (PutsEntry eq) [] l entries) p.1 made) in
        let r = laid-each Allowed entry EntryLaid entry_weight (λ x h. (x.0.1 ++ x.1.1, join (entry x) (x.0.1 ++ x.1.1) (x.0.1, x.1.1, refl, h.0, h.1), length-append x.0.1 x.1.1)) put.0 put.2 in
        (r.0, subst (λ l. AllowsEach Allowed l r.0) (sym put.1) r.1, omega (arith, r.2, p.3, put.3))

-- distinct keys are inserted as they are, in any order

module _ {K : Type 0} (eq : K → K → Bool) (laws : IsEquivalence eq) where
  -- what is equal, one by one, to keys that differ are keys that differ
  differs-equal : (x y : K) → eq x y ≡ true → (xs ys : List K) → pointwise eq xs ys ≡ true → AllByRecursion (λ z. eq x z ≡ false) xs → AllByRecursion (λ z. eq y z ≡ false) ys
  differs-equal x y e [] [] p h = tt
  differs-equal x y e [] (w ∷ ys) p h = absurd (cc)
  differs-equal x y e (z ∷ xs) [] p h = absurd (cc)
  differs-equal x y e (z ∷ xs) (w ∷ ys) p h =
      let q = and_parts (eq z w) (pointwise eq xs ys) p in
      (laws.symm y w ∙ sym (laws.congr z w y q.0) ∙ laws.symm z y ∙ sym (laws.congr x y z e) ∙ h.0, differs-equal x y e xs ys q.1 h.1)

  pub distinct-equal : (xs ys : List K) → pointwise eq xs ys ≡ true → IsDistinct eq xs → IsDistinct eq ys
  distinct-equal [] [] p d = d
  distinct-equal [] (y ∷ ys) p d = absurd (cc)
  distinct-equal (x ∷ xs) [] p d = absurd (cc)
  distinct-equal (x ∷ xs) (y ∷ ys) p d =
      let q = and_parts (eq x y) (pointwise eq xs ys) p in
      IsDistinct-cons eq y ys (differs-equal x y q.0 xs ys q.1 (IsDistinct-head eq x xs d)) (distinct-equal xs ys q.1 (IsDistinct-tail eq x xs d))

  none-equal : (k : K) (before items : List K) → AllByRecursion (λ y. eq k y ≡ false) (before ++ items) → list_any (eq k) before ≡ false
  none-equal k [] items h = refl
  none-equal k (x ∷ before) items h = rw h.0 (none-equal k before items h.1)

  distinct-put_keys : (before items after : List K) → IsDistinct eq (before ++ items) → PutsAll (PutsKey eq) before items after → IsPermutation (before ++ items) after
  distinct-put_keys before [] after d p = subst (λ l. IsPermutation (before ++ []) l) (append-nil before ∙ sym p) (IsPermutation-refl (before ++ []))
  distinct-put_keys before (k ∷ items) after d (between, p, q) =
      let first = IsPermutation-middle before k items in
      let apart = IsDistinct-IsPermutation eq laws.symm (before ++ k ∷ items) (k ∷ (before ++ items)) first d in
      let new = none-equal k before items (IsDistinct-head eq k (before ++ items) apart) in
      let moved : IsPermutation (k ∷ before) between = subst (λ there. MatchBool there (between ≡ before) (IsPermutation (k ∷ before) between)) new p in
      let others = IsPermutation-append_left items (k ∷ before) between moved in
      let rest = distinct-put_keys between items after (IsDistinct-IsPermutation eq laws.symm (k ∷ (before ++ items)) (between ++ items) others apart) q in
      IsPermutation-trans (before ++ k ∷ items) (k ∷ (before ++ items)) after first (IsPermutation-trans (k ∷ (before ++ items)) (between ++ items) after others rest)

  none-found : {V : Type 0} (k : K) (before items : List (K × V)) → AllByRecursion (λ y. eq k y ≡ false) (keys_of (before ++ items)) → lookup (eq k) before ≡ None
  none-found k [] items h = refl
  none-found k (x ∷ before) items h = rw h.0 (none-found k before items h.1)

  distinct-put_entries : {V : Type 0} (before items after : List (K × V)) → IsDistinct eq (keys_of (before ++ items)) → PutsAll (PutsEntry eq) before items after → IsPermutation (before ++ items) after
  distinct-put_entries before [] after d p = subst (λ l. IsPermutation (before ++ []) l) (append-nil before ∙ sym p) (IsPermutation-refl (before ++ []))
  distinct-put_entries before (e ∷ items) after d (between, p, q) =
      let first = IsPermutation-middle before e items in
      let apart = IsDistinct-IsPermutation eq laws.symm (keys_of (before ++ e ∷ items)) (keys_of (e ∷ (before ++ items))) (IsPermutation-map (λ x. x.0) (before ++ e ∷ items) (e ∷ (before ++ items)) first) d in
      let new = none-found e.0 before items (IsDistinct-head eq e.0 (keys_of (before ++ items)) apart) in
      let moved : IsPermutation (e ∷ before) between = subst (λ old. MatchOption old (IsPermutation (e ∷ before) between) (λ _. between ≡ set_value (eq e.0) before e.1)) new p in
      let others = IsPermutation-append_left items (e ∷ before) between moved in
      let rest = distinct-put_entries between items after
      (IsDistinct-IsPermutation eq laws.symm (keys_of (e ∷ (before ++ items))) (keys_of (between ++ items)) (IsPermutation-map (λ x. x.0) (e ∷ (before ++ items)) (between ++ items) others) apart) q in
      IsPermutation-trans (before ++ e ∷ items) (e ∷ (before ++ items)) after first (IsPermutation-trans (e ∷ (before ++ items)) (between ++ items) after others rest)

-- what is equal, in any order

module _ {K : Type 0} (eq : K → K → Bool) (laws : IsEquivalence eq) where
  same-as : (q x y : K) → eq x y ≡ true → eq q x ≡ eq q y
  same-as q x y e = laws.symm q x ∙ laws.congr x y q e ∙ laws.symm y q

  members-equal : (q : K) (xs ys : List K) → pointwise eq xs ys ≡ true → list_any (eq q) xs ≡ list_any (eq q) ys
  members-equal q [] [] p = refl
  members-equal q [] (y ∷ ys) p = absurd (cc)
  members-equal q (x ∷ xs) [] p = absurd (cc)
  members-equal q (x ∷ xs) (y ∷ ys) p =
      let r = and_parts (eq x y) (pointwise eq xs ys) p in
      λ i. same-as q x y r.0 i || members-equal q xs ys r.1 i

  -- keys of one meaning, in any order, are the same
  pub members-same : (Is Is' : K → Meaning → Type 0) (P Q : K → Type 0) → ((v w : K) (m : Meaning) → P v → Q w → Is v m → Is' w m → eq v w ≡ true) →
      (keys others : List K) (m : Meaning) → All P keys → All Q others → IsMadeOf MakesBag Is keys m → IsMadeOf MakesBag Is' others m → (q : K) → list_any (eq q) keys ≡ list_any (eq q) others
  members-same Is Is' P Q f keys others m h k (vs, a, i) (ws, b, j) q =
      let same = run-same Is Is' P Q eq f vs ws (All-permutation P keys vs (IsPermutation-sym vs keys a) h) (All-permutation Q others ws (IsPermutation-sym ws others b) k) m i j in
      sym (list_any-IsPermutation (eq q) vs keys a) ∙ members-equal q vs ws same ∙ list_any-IsPermutation (eq q) ws others b

  module _ {V : Type 0} where
    -- each entry is found at its key, if the keys differ
    module _ (q : K) where
      abbrev IsFound : Option V → K × V → Type 0
      IsFound found e = eq q e.0 ≡ true → found ≡ Some e.1

      found-later : (x : K × V) (xs es : List (K × V)) → AllByRecursion (λ y. eq x.0 y ≡ false) (keys_of es) → All (IsFound (lookup (eq q) xs)) es → All (IsFound (lookup (eq q) (x ∷ xs))) es
      found-later x xs [] apart h = All-nil (IsFound (lookup (eq q) (x ∷ xs)))
      found-later x xs (e ∷ es) apart h =
          let here : IsFound (lookup (eq q) (x ∷ xs)) e = λ at.
          let other : eq q x.0 ≡ false = laws.congr q e.0 x.0 at ∙ laws.symm e.0 x.0 ∙ apart.0 in
          rw other (All-head (IsFound (lookup (eq q) xs)) e es h at) in
          All-cons (IsFound (lookup (eq q) (x ∷ xs))) e es here (found-later x xs es apart.1 (All-tail (IsFound (lookup (eq q) xs)) e es h))

      all-found : (es : List (K × V)) → IsDistinct eq (keys_of es) → All (IsFound (lookup (eq q) es)) es
      all-found [] d = All-nil (IsFound None)
      all-found (e ∷ es) d =
          let here : IsFound (lookup (eq q) (e ∷ es)) e = λ at. ap (λ b. cond b (Some e.1) (lookup (eq q) es)) at in
          All-cons (IsFound (lookup (eq q) (e ∷ es))) e es here
          (found-later e es es (IsDistinct-head eq e.0 (keys_of es) d) (all-found es (IsDistinct-tail eq e.0 (keys_of es) d)))

      found-at : (found : Option V) (b : Bool) (e : K × V) (rest : Option V) → (b ≡ true → found ≡ Some e.1) → (rest ≡ None) ⊎ (found ≡ rest) →
          (cond b (Some e.1) rest ≡ None) ⊎ (found ≡ cond b (Some e.1) rest)
      found-at found true e rest h r = inr (h refl)
      found-at found false e rest h r = r

      found-or_none : (found : Option V) (es : List (K × V)) → All (IsFound found) es → (lookup (eq q) es ≡ None) ⊎ (found ≡ lookup (eq q) es)
      found-or_none found [] h = inl refl
      found-or_none found (e ∷ es) h = found-at found (eq q e.0) e (lookup (eq q) es) (All-head (IsFound found) e es h) (found-or_none found es (All-tail (IsFound found) e es h))

      one-found : (a b : Option V) → (b ≡ None) ⊎ (a ≡ b) → (a ≡ None) ⊎ (b ≡ a) → a ≡ b
      one-found a b (inr e) k = e
      one-found a b (inl e) (inr k) = sym k
      one-found a b (inl e) (inl k) = k ∙ sym e

      -- entries of different keys are found alike in any order
      lookup-permuted : (es fs : List (K × V)) → IsPermutation es fs → IsDistinct eq (keys_of es) → lookup (eq q) es ≡ lookup (eq q) fs
      lookup-permuted es fs p d =
          let apart = IsDistinct-IsPermutation eq laws.symm (keys_of es) (keys_of fs) (IsPermutation-map (λ x. x.0) es fs p) d in
          one-found (lookup (eq q) es) (lookup (eq q) fs)
          (found-or_none (lookup (eq q) es) fs (All-permutation (IsFound (lookup (eq q) es)) es fs p (all-found es d)))
          (found-or_none (lookup (eq q) fs) es (All-permutation (IsFound (lookup (eq q) fs)) fs es (IsPermutation-sym es fs p) (all-found fs apart)))

    module _ (same : V → V → Bool) where
      both-found : (b : Bool) (x y : V) (o p : Option V) → same x y ≡ true → option_eq same o p ≡ true → option_eq same (cond b (Some x) o) (cond b (Some y) p) ≡ true
      both-found true x y o p e k = e
      both-found false x y o p e k = k

      lookups-equal : (q : K) (es fs : List (K × V)) → pointwise (λ x y. eq x.0 y.0 && same x.1 y.1) es fs ≡ true → option_eq same (lookup (eq q) es) (lookup (eq q) fs) ≡ true
      lookups-equal q [] [] p = refl
      lookups-equal q [] (f ∷ fs) p = absurd (cc)
      lookups-equal q (e ∷ es) [] p = absurd (cc)
      lookups-equal q (e ∷ es) (f ∷ fs) p =
          let r = and_parts (eq e.0 f.0 && same e.1 f.1) (pointwise (λ x y. eq x.0 y.0 && same x.1 y.1) es fs) p in
          let t = and_parts (eq e.0 f.0) (same e.1 f.1) r.0 in
          rw (same-as q e.0 f.0 t.0) (both-found (eq q f.0) e.1 f.1 (lookup (eq q) es) (lookup (eq q) fs) t.1 (lookups-equal q es fs r.1))

      -- entries of one meaning, in any order, are the same, if their keys differ
      pub entries-same : (Is Is' : K × V → Meaning → Type 0) (P Q : K × V → Type 0) → ((v w : K × V) (m : Meaning) → P v → Q w → Is v m → Is' w m → eq v.0 w.0 && same v.1 w.1 ≡ true) →
          (entries others : List (K × V)) (m : Meaning) → IsDistinct eq (keys_of entries) → IsDistinct eq (keys_of others) → All P entries → All Q others →
          IsMadeOf MakesBag Is entries m → IsMadeOf MakesBag Is' others m → (q : K) → option_eq same (lookup (eq q) entries) (lookup (eq q) others) ≡ true
      entries-same Is Is' P Q f entries others m d e h k (vs, a, i) (ws, b, j) q =
          let first = IsPermutation-sym vs entries a in
          let second = IsPermutation-sym ws others b in
          let alike = run-same Is Is' P Q (λ x y. eq x.0 y.0 && same x.1 y.1) f vs ws (All-permutation P entries vs first h) (All-permutation Q others ws second k) m i j in
          rw (lookup-permuted q entries vs first d, lookup-permuted q others ws second e) (lookups-equal q vs ws alike)

-- sets
module _ {K : Type 0} (eq : K → K → Bool) (laws : IsEquivalence eq) (Means DecodesTo : K → Meaning → Type 0) (Valid : K → Type 0)
    (comes_back : (v w : K) (m : Meaning) → Valid v → Means v m → DecodesTo w m → eq v w ≡ true) where
  -- what decodes to what keys that differ mean are its keys, in some order, and each is equal to one of those
  pub given_keys : (keys others : List K) (m : Meaning) → IsDistinct eq keys → All Valid keys → (meant : IsMadeOf MakesBag Means keys m) → (given : IsMadeOf (MakesHashedSet eq) DecodesTo others m) →
      (pointwise eq meant.0 given.0 ≡ true) × IsPermutation given.0 others
  given_keys keys others m d h meant given =
      let moved = IsPermutation-sym meant.0 keys meant.1 in
      let same = run-same Means DecodesTo Valid (λ k. Unit {0}) eq (λ v w n p q. comes_back v w n p) meant.0 given.0 (All-permutation Valid keys meant.0 moved h) (λ k e lt. tt) m meant.2 given.2 in
      (same, distinct-put_keys eq laws [] given.0 others (distinct-equal eq laws meant.0 given.0 same (IsDistinct-IsPermutation eq laws.symm keys meant.0 moved d)) given.1)

  -- a set comes back with the same keys
  pub hashed_set-comes_back : (keys others : List K) (m : Meaning) → IsDistinct eq keys → All Valid keys → IsMadeOf MakesBag Means keys m → IsMadeOf (MakesHashedSet eq) DecodesTo others m →
      (q : K) → list_any (eq q) keys ≡ list_any (eq q) others
  hashed_set-comes_back keys others m d h meant given =
      let g = given_keys keys others m d h meant given in
      members-same eq laws Means DecodesTo Valid (λ k. Unit {0}) (λ v w n p q. comes_back v w n p) keys others m h (λ k e lt. tt) meant (given.0, g.1, given.2)

  -- no word that decodes to it is shorter, if none of a key is
  pub hashed_set-shortest : (s : Setting) (share : ℕ) (F : Format Meaning) → ((v w : K) → Valid v → IsShortest (Means v) (DecodesTo w) F) →
      (keys others : List K) → AreValid Valid keys → IsDistinct eq keys → IsShortest (IsMadeOf MakesBag Means keys) (IsMadeOf (MakesHashedSet eq) DecodesTo others) (list s share F)
  hashed_set-shortest s share F least keys others h d written bytes m steps w below u (items, e, i) =
      let meant = w.is_meant.0 in
      let given = w.is_meant.1 in
      let g = given_keys keys others w.meaning d h.1 meant given in
      let long : length keys ≡ length others = omega (arith, length_permutation meant.0 keys meant.1, as_long eq meant.0 given.0 g.0, length_permutation given.0 others g.1) in
      let r = fewer-read DecodesTo share F s items others (length-hashed_set eq items others e) (omega (arith, h.0, long))
      (hashed_set-allowed eq (λ v. ReadsAs (DecodesTo v) F) items others e) bytes
      (record { meaning = m; steps = steps; are_bytes = below; is_word = u; is_decoded = i }) in
      let l = bag-shortest Means s share F DecodesTo Valid least keys others h.1 written r.0 r.1.meaning r.1.steps
      (record { meaning = w.meaning; is_meant = (meant, (given.0, g.1, given.2)); is_written = w.is_written }) r.1.are_bytes r.1.is_word (others, IsPermutation-refl others, r.1.is_decoded) in
      omega (arith, l, r.2)

-- maps
module _ {K V : Type 0} (eq : K → K → Bool) (laws : IsEquivalence eq) (Means DecodesTo : K × V → Meaning → Type 0) (Valid : K × V → Type 0) where
  -- what decodes to what entries of different keys mean are its entries, in some order, and each is alike to one of
  -- those
  pub given_entries : (same : K × V → K × V → Bool) → ((x y : K × V) → same x y ≡ true → eq x.0 y.0 ≡ true) →
      ((v w : K × V) (m : Meaning) → Valid v → Means v m → DecodesTo w m → same v w ≡ true) → (entries others : List (K × V)) (m : Meaning) → IsDistinct eq (keys_of entries) → All Valid entries →
      (meant : IsMadeOf MakesBag Means entries m) → (given : IsMadeOf (MakesHashedMap eq) DecodesTo others m) →
      (pointwise same meant.0 given.0 ≡ true) × IsDistinct eq (keys_of others) × IsPermutation given.0 others
  given_entries same keys_same comes_back entries others m d h meant given =
      let moved = IsPermutation-sym meant.0 entries meant.1 in
      let all = All-permutation Valid entries meant.0 moved h in
      let alike = run-same Means DecodesTo Valid (λ k. Unit {0}) same (λ v w n p q. comes_back v w n p) meant.0 given.0 all (λ k e lt. tt) m meant.2 given.2 in
      let first = run-same Means DecodesTo Valid (λ k. Unit {0}) (λ x y. eq x.0 y.0) (λ v w n p q i j. keys_same v w (comes_back v w n p i j)) meant.0 given.0 all (λ k e lt. tt) m meant.2 given.2 in
      let keys = pointwise-map (λ x. x.0) eq meant.0 given.0 ∙ first in
      let apart = IsDistinct-IsPermutation eq laws.symm (keys_of entries) (keys_of meant.0) (IsPermutation-map (λ x. x.0) entries meant.0 moved) d in
      let differ = distinct-equal eq laws (keys_of meant.0) (keys_of given.0) keys apart in
      let put = distinct-put_entries eq laws [] given.0 others differ given.1 in
      (alike, IsDistinct-IsPermutation eq laws.symm (keys_of given.0) (keys_of others) (IsPermutation-map (λ x. x.0) given.0 others put) differ, put)

  -- a map comes back with the same entries, if its keys and its values do
  pub hashed_map-comes_back : (same : V → V → Bool) → ((v w : K × V) (m : Meaning) → Valid v → Means v m → DecodesTo w m → eq v.0 w.0 && same v.1 w.1 ≡ true) →
      (entries others : List (K × V)) (m : Meaning) → IsDistinct eq (keys_of entries) → All Valid entries → IsMadeOf MakesBag Means entries m → IsMadeOf (MakesHashedMap eq) DecodesTo others m →
      (q : K) → option_eq same (lookup (eq q) entries) (lookup (eq q) others) ≡ true
  hashed_map-comes_back same comes_back entries others m d h meant given =
      let g = given_entries (λ x y. eq x.0 y.0 && same x.1 y.1) (λ x y p. (and_parts (eq x.0 y.0) (same x.1 y.1) p).0) comes_back entries others m d h meant given in
      entries-same eq laws same Means DecodesTo Valid (λ k. Unit {0}) (λ v w n p q. comes_back v w n p) entries others m d g.1 h (λ k e lt. tt) meant (given.0, g.2, given.2)

module _ {K V : Type 0} (eq : K → K → Bool) (laws : IsEquivalence eq) (Valid : K × V → Type 0) (Means : K × V → Meaning → Type 0) (GivenKey : K → Meaning → Type 0) (GivenValue : V → Meaning → Type 0) where
  abbrev DecodesTo : K × V → Meaning → Type 0
  DecodesTo e = IsPair (GivenKey e.0) (GivenValue e.1)

  -- no word that decodes to it is shorter, if none of an entry is: of words of equal keys those of the first key and of
  -- the last value count
  pub hashed_map-shortest : ((v w : K × V) (m : Meaning) → Valid v → Means v m → DecodesTo w m → eq v.0 w.0 ≡ true) → (s : Setting) (share : ℕ) (F G : Format Meaning) →
      ((v w : K × V) → Valid v → IsShortest (Means v) (DecodesTo w) (pair_of F G)) → (entries others : List (K × V)) → AreValid Valid entries →
      IsDistinct eq (keys_of entries) → IsShortest (IsMadeOf MakesBag Means entries) (IsMadeOf (MakesHashedMap eq) DecodesTo others) (list s share (pair_of F G))
  hashed_map-shortest keys_come_back s share F G least entries others h d written bytes m steps w below u (items, e, i) =
      let H = pair_of F G in
      let meant = w.is_meant.0 in
      let given = w.is_meant.1 in
      let g = given_entries eq laws Means DecodesTo Valid (λ x y. eq x.0 y.0) (λ x y p. p) keys_come_back entries others w.meaning d h.1 meant given in
      let long : length entries ≡ length others =
      omega (arith, length_permutation meant.0 entries meant.1, as_long (λ x y. eq x.0 y.0) meant.0 given.0 g.0, length_permutation given.0 others g.2) in
      let r = fewer-read DecodesTo share H s items others (length-hashed_map eq items others e) (omega (arith, h.0, long))
      (hashed_map-allowed eq (λ k. ReadsAs (GivenKey k) F) (λ v. ReadsAs (GivenValue v) G) (λ v. ReadsAs (DecodesTo v) H)
      (λ x. pair-reads (GivenKey x.0) (GivenValue x.1) F G) (λ x. reads-pair (GivenKey x.0) (GivenValue x.1) F G) items others e) bytes
      (record { meaning = m; steps = steps; are_bytes = below; is_word = u; is_decoded = i }) in
      let l = bag-shortest Means s share H DecodesTo Valid least entries others h.1 written r.0 r.1.meaning r.1.steps
      (record { meaning = w.meaning; is_meant = (meant, (given.0, g.2, given.2)); is_written = w.is_written }) r.1.are_bytes r.1.is_word (others, IsPermutation-refl others, r.1.is_decoded) in
      omega (arith, l, r.2)
