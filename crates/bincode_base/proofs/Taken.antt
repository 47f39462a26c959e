-- Values taken out of slots, one after another.
use Rattle.std.proofs.Common.{arith, ◌≡◌, ℕ, zero, suc, ◌+◌, ◌≤◌, ◌<◌, List, [], ◌∷◌, length, map, IsSome, Some, None, slice_index_or, Option, refl, sym, ap, ◌∙◌}
use Rattle.std.proofs.lemmas.List.{length-map}
use Rattle.std.specs.Iterator.{Yields}
use Rattle.std.specs.List.{FoldsTo}
use Rattle.std.specs.Array.{index_steps, IsFromFnResultFrom}
use denote.Param.Members.{Mut, Called}

later : (n : ℕ) (xs : List ℕ) (s t : ℕ) → Yields (index_steps n) s xs t → s ≤ t
later n [] s t y = omega (arith, y)
later n (x ∷ xs) s t (j, h, ys) = let m = later n xs j t ys in let e = h.2 in omega (arith, m, e)

-- calls at other indices leave a slot as it was
pub slot-kept : {P T : Type 0} (view : P → List (Option T)) (R : P → ℕ → P → Type 0) (n : ℕ)
    → ((p : P) (x : ℕ) (q : P) → R p x q → (i : ℕ) → x < i → slice_index_or (view q) i None ≡ slice_index_or (view p) i None)
    → (xs : List ℕ) (s t : ℕ) (p q : P) → Yields (index_steps n) s xs t → FoldsTo R p xs q
    → (i : ℕ) → t ≤ i → slice_index_or (view q) i None ≡ slice_index_or (view p) i None
slot-kept view R n h [] s t p q y f i le = ap (λ z. slice_index_or (view z) i None) (sym f)
slot-kept view R n h (x ∷ xs) s t p q (j, st, ys) (p', r, fs) i le =
    let m = later n xs j t ys in
    let e = st.2 in
    let d = st.1 in
    slot-kept view R n h xs j t p' q ys fs i le ∙ h p x p' r i (omega (arith, m, e, d, le))

-- each call gives what its slot held at first
pub slots-given : {F T : Type 0} (g : Mut F (ℕ × Unit {0}) T) (view : F → List (Option T))
    → ((p : F) (x : ℕ) (y : T) (q : F) → Called g p (x, tt) y q → Some y ≡ slice_index_or (view p) x None)
    → ((p : F) (x : ℕ) (y : T) (q : F) → Called g p (x, tt) y q → (i : ℕ) → x < i → slice_index_or (view q) i None ≡ slice_index_or (view p) i None)
    → (ys : List T) (n i : ℕ) (f : F) → IsFromFnResultFrom g f ys i n
    → (m k : ℕ) (d : T) → k ≡ i + m → m < n → Some (slice_index_or ys k d) ≡ slice_index_or (view f) k None
slots-given g view here there ys zero i f e m k d eq lt = absurd (omega (arith, lt))
slots-given g view here there ys (suc n) i f (q, y, at, called, others) zero k d eq lt =
    let e : k ≡ i = omega (arith, eq) in rw e (ap Some (at.1 d) ∙ here f i y q called)
slots-given g view here there ys (suc n) i f (q, y, at, called, others) (suc m) k d eq lt =
    slots-given g view here there ys n (i + 1) q others m k d (omega (arith, eq)) (omega (arith, lt)) ∙ there f i y q called k (omega (arith, eq))

-- an array of the values that the slots hold
pub all-given : {T : Type 0} (xs : List T) (ys : List (Option T)) → length xs ≡ length ys →
    ((k : ℕ) (d : T) → k < length xs → Some (slice_index_or xs k d) ≡ slice_index_or ys k None) → map Some xs ≡ ys
all-given [] [] e h = refl
all-given [] (y ∷ ys) e h = absurd (omega (arith, e))
all-given (x ∷ xs) [] e h = absurd (omega (arith, e))
all-given (x ∷ xs) (y ∷ ys) e h =
    let a : Some x ≡ y = h 0 x (omega arith) in
    let b : map Some xs ≡ ys = all-given xs ys (omega (arith, e)) (λ k d lt. h (suc k) d (omega (arith, lt))) in
    cc

-- slots of values are all filled
pub all-filled : {T : Type 0} (xs : List T) (ys : List (Option T)) (n : ℕ) → length ys ≡ n → ys ≡ map Some xs → (i : ℕ) → i < n → IsSome (slice_index_or ys i None)
all-filled {T} xs ys n l e i lt = rw e (at xs i (omega (arith, lt, l, ap length e, length-map xs (λ (x : T). Some x))))
  where
    at : (xs : List T) (i : ℕ) → i < length xs → IsSome (slice_index_or (map Some xs) i None)
    at [] i lt = absurd (omega (arith, lt))
    at (x ∷ xs) zero lt = refl
    at (x ∷ xs) (suc i) lt = at xs i (omega (arith, lt))

-- equal slots hold equal values
pub values-same : {T : Type 0} (xs ys : List T) → map Some xs ≡ map Some ys → xs ≡ ys
values-same [] [] e = refl
values-same [] (y ∷ ys) e = absurd (cc)
values-same (x ∷ xs) [] e = absurd (cc)
values-same (x ∷ xs) (y ∷ ys) e =
    let t : map Some xs ≡ map Some ys = cc in
    let r : xs ≡ ys = values-same xs ys t in
    let h : x ≡ y = cc in
    cc
