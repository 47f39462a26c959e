-- Inserting keys and entries: sorted ones stay as they are, and those that stay charge no more.
use Rattle.std.specs.Prelude.{◌≡◌, ℕ, ◌+◌, ◌≤◌, Bool, true, List, [], ◌∷◌, ◌++◌, length, map, refl}
use Rattle.std.specs.declared.cmp.Ordering.{Ordering}
use Rattle.std.specs.declared.cmp.Ordering.TheVariants.{Less, Equal, Greater}
use Rattle.std.specs.Ordering.{match_ordering, ordering_reverse, is_eq}
use Rattle.std.specs.Cmp.{IsTotalOrder, Equal-is}
use Rattle.std.specs.Cmp.Lexicographic.{pointwise}
use Rattle.std.specs.List.{All, AllByRecursion, sum_by}
use Rattle.std.specs.List.Sorted.{IsStrictlySortedBy}
use Rattle.std.specs.BTreeSet.{insert_key}
use Rattle.std.specs.BTreeMap.{insert_entry}
use Rattle.std.specs.Map.{keys_of}
use Rattle.std.proofs.Common.{sym, ◌∙◌, ap, arith, append_assoc, append-nil}
use Rattle.std.proofs.lemmas.Bool.{and_parts}
use Rattle.std.proofs.lemmas.Cmp.{alike_right}
use Rattle.std.proofs.lemmas.List.Elements.{All-nil, All-cons, All-head, All-tail, All-weaker, All-push, All-from_recursion}
use Rattle.std.proofs.lemmas.List.Sums.{sum_by-cons}
use Rattle.std.proofs.lemmas.Map.Keys.{sorted_head, sorted_tail}
use Rattle.std.proofs.lemmas.Map.Views.{All-insert_key}
use Rattle.bincode_spec.specs.Collections.{put_keys, put_entries}

-- sorted keys and entries

module _ {K : Type 0} (cmp : K → K → Ordering) (total : IsTotalOrder cmp) where
  above : (x y : K) → cmp x y ≡ Less → cmp y x ≡ Greater
  above x y e = total.antisymm y x ∙ ap ordering_reverse e

  insert_last : (keys : List K) (k : K) → All (λ x. cmp k x ≡ Greater) keys → insert_key cmp keys k ≡ keys ++ k ∷ []
  insert_last [] k h = refl
  insert_last (x ∷ keys) k h = rw (All-head (λ y. cmp k y ≡ Greater) x keys h) (ap (λ l. x ∷ l) (insert_last keys k (All-tail (λ y. cmp k y ≡ Greater) x keys h)))

  put_last : (keys items : List K) → All (λ x. All (λ y. cmp y x ≡ Greater) items) keys → IsStrictlySortedBy cmp items → put_keys cmp keys items ≡ keys ++ items
  put_last keys [] h s = sym (append-nil keys)
  put_last keys (k ∷ items) h s =
      let last = insert_last keys k (All-weaker _ (λ x. cmp k x ≡ Greater) (λ x. All-head (λ y. cmp y x ≡ Greater) k items) keys h) in
      let below = All-from_recursion (λ y. cmp k y ≡ Less) items (sorted_head cmp k items s) in
      let first : All (λ y. cmp y k ≡ Greater) items = All-weaker (λ y. cmp k y ≡ Less) (λ y. cmp y k ≡ Greater) (above k) items below in
      let others = All-weaker _ (λ x. All (λ y. cmp y x ≡ Greater) items) (λ x. All-tail (λ y. cmp y x ≡ Greater) k items) keys h in
      ap (λ l. put_keys cmp l items) last
      ∙ put_last (keys ++ k ∷ []) items (All-push (λ x. All (λ y. cmp y x ≡ Greater) items) keys k others first) (sorted_tail cmp k items s)
      ∙ append_assoc keys (k ∷ []) items

  -- inserting sorted keys leaves them as they are
  pub sorted-put_keys : (items : List K) → IsStrictlySortedBy cmp items → put_keys cmp [] items ≡ items
  sorted-put_keys items s = put_last [] items (All-nil (λ x. All (λ y. cmp y x ≡ Greater) items)) s

  module _ {V : Type 0} where
    insert_last_entry : (entries : List (K × V)) (k : K) (v : V) → All (λ x. cmp k x.0 ≡ Greater) entries → insert_entry cmp entries k v ≡ entries ++ (k, v) ∷ []
    insert_last_entry [] k v h = refl
    insert_last_entry (x ∷ entries) k v h =
        rw (All-head (λ y. cmp k y.0 ≡ Greater) x entries h) (ap (λ l. x ∷ l) (insert_last_entry entries k v (All-tail (λ y. cmp k y.0 ≡ Greater) x entries h)))

    first_below : (x : K × V) (items : List (K × V)) → AllByRecursion (λ y. cmp x.0 y ≡ Less) (keys_of items) → All (λ y. cmp y.0 x.0 ≡ Greater) items
    first_below x [] h = All-nil (λ y. cmp y.0 x.0 ≡ Greater)
    first_below x (y ∷ items) h = All-cons (λ y. cmp y.0 x.0 ≡ Greater) y items (above x.0 y.0 h.0) (first_below x items h.1)

    put_last_entries : (entries items : List (K × V)) → All (λ x. All (λ y. cmp y.0 x.0 ≡ Greater) items) entries →
        IsStrictlySortedBy cmp (keys_of items) → put_entries cmp entries items ≡ entries ++ items
    put_last_entries entries [] h s = sym (append-nil entries)
    put_last_entries entries (e ∷ items) h s =
        let last = insert_last_entry entries e.0 e.1 (All-weaker _ (λ x. cmp e.0 x.0 ≡ Greater) (λ x. All-head (λ y. cmp y.0 x.0 ≡ Greater) e items) entries h) in
        let first = first_below e items (sorted_head cmp e.0 (keys_of items) s) in
        let others = All-weaker _ (λ x. All (λ y. cmp y.0 x.0 ≡ Greater) items) (λ x. All-tail (λ y. cmp y.0 x.0 ≡ Greater) e items) entries h in
        ap (λ l. put_entries cmp l items) last
        ∙ put_last_entries (entries ++ e ∷ []) items (All-push (λ x. All (λ y. cmp y.0 x.0 ≡ Greater) items) entries e others first) (sorted_tail cmp e.0 (keys_of items) s)
        ∙ append_assoc entries (e ∷ []) items

    -- inserting entries with sorted keys leaves them as they are
    pub sorted-put_entries : (items : List (K × V)) → IsStrictlySortedBy cmp (keys_of items) → put_entries cmp [] items ≡ items
    sorted-put_entries items s = put_last_entries [] items (All-nil (λ x. All (λ y. cmp y.0 x.0 ≡ Greater) items)) s

  -- what is equal, one by one, to sorted keys is sorted
  module _ (eq : K → K → Bool) (matches : (x y : K) → eq x y ≡ is_eq (cmp x y)) where
    equal : (x y : K) → eq x y ≡ true → cmp x y ≡ Equal
    equal x y e = (Equal-is (cmp x y)).0 (sym (matches x y) ∙ e)

    below_equal : (x y : K) → eq x y ≡ true → (xs ys : List K) → pointwise eq xs ys ≡ true → AllByRecursion (λ z. cmp x z ≡ Less) xs → AllByRecursion (λ z. cmp y z ≡ Less) ys
    below_equal x y e [] [] p h = tt
    below_equal x y e [] (w ∷ ys) p h = absurd (cc)
    below_equal x y e (z ∷ xs) [] p h = absurd (cc)
    below_equal x y e (z ∷ xs) (w ∷ ys) p h =
        let q = and_parts (eq z w) (pointwise eq xs ys) p in
        (sym (total.congr x y w (equal x y e)) ∙ sym (alike_right total z w x (equal z w q.0)) ∙ h.0, below_equal x y e xs ys q.1 h.1)

    pub sorted-equal : (xs ys : List K) → pointwise eq xs ys ≡ true → IsStrictlySortedBy cmp xs → IsStrictlySortedBy cmp ys
    unfolding IsStrictlySortedBy
    sorted-equal [] [] p s = s
    sorted-equal [] (y ∷ ys) p s = absurd (cc)
    sorted-equal (x ∷ xs) [] p s = absurd (cc)
    sorted-equal (x ∷ xs) (y ∷ ys) p s =
        let q = and_parts (eq x y) (pointwise eq xs ys) p in
        (below_equal x y q.0 xs ys q.1 s.0, sorted-equal xs ys q.1 s.1)

-- what is inserted

map_chosen : {A B : Type 0} (f : A → B) (o : Ordering) (a b c : List A) → map f (match_ordering o a b c) ≡ match_ordering o (map f a) (map f b) (map f c)
map_chosen f Less a b c = refl
map_chosen f Equal a b c = refl
map_chosen f Greater a b c = refl

module _ {K : Type 0} (cmp : K → K → Ordering) where
  -- keys that are part of what is inserted
  module _ {W : Type 0} (plain : W → K) where
    abbrev told : W → W → Ordering
    told x y = cmp (plain x) (plain y)

    map_insert : (xs : List W) (x : W) → map plain (insert_key told xs x) ≡ insert_key cmp (map plain xs) (plain x)
    map_insert [] x = refl
    map_insert (y ∷ xs) x =
        map_chosen plain (told x y) (x ∷ y ∷ xs) (y ∷ xs) (y ∷ insert_key told xs x)
        ∙ ap (λ l. match_ordering (told x y) (plain x ∷ plain y ∷ map plain xs) (plain y ∷ map plain xs) (plain y ∷ l)) (map_insert xs x)

    pub map-put_keys : (xs items : List W) → map plain (put_keys told xs items) ≡ put_keys cmp (map plain xs) (map plain items)
    map-put_keys xs [] = refl
    map-put_keys xs (x ∷ items) = map-put_keys (insert_key told xs x) items ∙ ap (λ l. put_keys cmp l (map plain items)) (map_insert xs x)

  pub All-put_keys : (P : K → Type 0) (keys items : List K) → All P keys → All P items → All P (put_keys cmp keys items)
  All-put_keys P keys [] h k = h
  All-put_keys P keys (x ∷ items) h k = All-put_keys P (insert_key cmp keys x) items (All-insert_key cmp x P keys h (All-head P x items k)) (All-tail P x items k)

  module _ (weight : K → ℕ) where
    chosen_charged : (o : Ordering) (k x : K) (xs rest : List K) → sum_by weight rest ≤ sum_by weight xs + weight k →
        sum_by weight (match_ordering o (k ∷ x ∷ xs) (x ∷ xs) (x ∷ rest)) ≤ sum_by weight (x ∷ xs) + weight k
    chosen_charged Less k x xs rest h = omega (arith, sum_by-cons weight k (x ∷ xs))
    chosen_charged Equal k x xs rest h = omega arith
    chosen_charged Greater k x xs rest h = omega (arith, h, sum_by-cons weight x xs, sum_by-cons weight x rest)

    insert_charged : (keys : List K) (k : K) → sum_by weight (insert_key cmp keys k) ≤ sum_by weight keys + weight k
    insert_charged [] k = omega (arith, sum_by-cons weight k [])
    insert_charged (x ∷ keys) k = chosen_charged (cmp k x) k x keys (insert_key cmp keys k) (insert_charged keys k)

    -- no more than what was inserted
    pub put_keys-charged : (keys items : List K) → sum_by weight (put_keys cmp keys items) ≤ sum_by weight keys + sum_by weight items
    put_keys-charged keys [] = omega arith
    put_keys-charged keys (x ∷ items) = omega (arith, put_keys-charged (insert_key cmp keys x) items, insert_charged keys x, sum_by-cons weight x items)

-- entries whose keys and values are parts of what is inserted
module _ {K V : Type 0} (cmp : K → K → Ordering) where
  module _ {W X : Type 0} (plain : W → K) (value : X → V) where
    abbrev told_by : W → W → Ordering
    told_by x y = cmp (plain x) (plain y)

    abbrev both : W × X → K × V
    both e = (plain e.0, value e.1)

    map_insert_entry : (es : List (W × X)) (w : W) (x : X) → map both (insert_entry told_by es w x) ≡ insert_entry cmp (map both es) (plain w) (value x)
    map_insert_entry [] w x = refl
    map_insert_entry (e ∷ es) w x =
        map_chosen both (told_by w e.0) ((w, x) ∷ e ∷ es) ((e.0, x) ∷ es) (e ∷ insert_entry told_by es w x)
        ∙ ap (λ l. match_ordering (told_by w e.0) ((plain w, value x) ∷ both e ∷ map both es) ((plain e.0, value x) ∷ map both es) (both e ∷ l)) (map_insert_entry es w x)

    pub map-put_entries : (es items : List (W × X)) → map both (put_entries told_by es items) ≡ put_entries cmp (map both es) (map both items)
    map-put_entries es [] = refl
    map-put_entries es (e ∷ items) = map-put_entries (insert_entry told_by es e.0 e.1) items ∙ ap (λ l. put_entries cmp l (map both items)) (map_insert_entry es e.0 e.1)

  module _ (P : K → Type 0) (Q : V → Type 0) where
    abbrev Each : K × V → Type 0
    Each e = P e.0 × Q e.1

    all_chosen : (o : Ordering) (k : K) (v : V) (e : K × V) (es rest : List (K × V)) → P k → Q v → All Each (e ∷ es) → All Each rest →
        All Each (match_ordering o ((k, v) ∷ e ∷ es) ((e.0, v) ∷ es) (e ∷ rest))
    all_chosen Less k v e es rest p q h r = All-cons Each (k, v) (e ∷ es) (p, q) h
    all_chosen Equal k v e es rest p q h r = All-cons Each (e.0, v) es ((All-head Each e es h).0, q) (All-tail Each e es h)
    all_chosen Greater k v e es rest p q h r = All-cons Each e rest (All-head Each e es h) r

    all_insert : (es : List (K × V)) (k : K) (v : V) → P k → Q v → All Each es → All Each (insert_entry cmp es k v)
    all_insert [] k v p q h = All-cons Each (k, v) [] (p, q) h
    all_insert (e ∷ es) k v p q h = all_chosen (cmp k e.0) k v e es (insert_entry cmp es k v) p q h (all_insert es k v p q (All-tail Each e es h))

    -- what holds of each key and of each value
    pub All-put_entries : (es items : List (K × V)) → All Each es → All Each items → All Each (put_entries cmp es items)
    All-put_entries es [] h k = h
    All-put_entries es (e ∷ items) h k =
        let p = All-head Each e items k in
        All-put_entries (insert_entry cmp es e.0 e.1) items (all_insert es e.0 e.1 p.0 p.1 h) (All-tail Each e items k)

  module _ (weight : K → ℕ) (burden : V → ℕ) where
    abbrev total_of : K × V → ℕ
    total_of e = weight e.0 + burden e.1

    entry_charged : (o : Ordering) (k : K) (v : V) (e : K × V) (es rest : List (K × V)) → sum_by total_of rest ≤ sum_by total_of es + total_of (k, v) →
        sum_by total_of (match_ordering o ((k, v) ∷ e ∷ es) ((e.0, v) ∷ es) (e ∷ rest)) ≤ sum_by total_of (e ∷ es) + total_of (k, v)
    entry_charged Less k v e es rest h = omega (arith, sum_by-cons total_of (k, v) (e ∷ es))
    entry_charged Equal k v e es rest h = omega (arith, sum_by-cons total_of (e.0, v) es, sum_by-cons total_of e es)
    entry_charged Greater k v e es rest h = omega (arith, h, sum_by-cons total_of e es, sum_by-cons total_of e rest)

    insert_entry_charged : (es : List (K × V)) (k : K) (v : V) → sum_by total_of (insert_entry cmp es k v) ≤ sum_by total_of es + total_of (k, v)
    insert_entry_charged [] k v = omega (arith, sum_by-cons total_of (k, v) [])
    insert_entry_charged (e ∷ es) k v = entry_charged (cmp k e.0) k v e es (insert_entry cmp es k v) (insert_entry_charged es k v)

    -- no more than what was inserted
    pub put_entries-charged : (es items : List (K × V)) → sum_by total_of (put_entries cmp es items) ≤ sum_by total_of es + sum_by total_of items
    put_entries-charged es [] = omega arith
    put_entries-charged es (e ∷ items) = omega (arith, put_entries-charged (insert_entry cmp es e.0 e.1) items, insert_entry_charged es e.0 e.1, sum_by-cons total_of e items)

-- no more than were inserted
ones : {A : Type 0} (xs : List A) → sum_by (λ x. 1) xs ≡ length xs
ones [] = refl
ones (x ∷ xs) = sum_by-cons (λ x. 1) x xs ∙ omega (arith, ones xs)

pub length-put_keys : {K : Type 0} (cmp : K → K → Ordering) (items : List K) → length (put_keys cmp [] items) ≤ length items
length-put_keys cmp items = omega (arith, put_keys-charged cmp (λ x. 1) [] items, ones (put_keys cmp [] items), ones items)

pub length-put_entries : {K V : Type 0} (cmp : K → K → Ordering) (items : List (K × V)) → length (put_entries cmp [] items) ≤ length items
length-put_entries cmp items = omega (arith, put_entries-charged cmp (λ k. 1) (λ v. 0) [] items, ones (put_entries cmp [] items), ones items)
