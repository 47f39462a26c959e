-- What reads and writes of a slice return and leave.
use Rattle.std.specs.Prelude.{◌≡◌, ℕ, ◌+◌, ◌-◌, ◌<◌, ◌≤◌, ◌⊎◌, List, [], ◌++◌, length, take, drop, Option, Some, None, IsSome, IfSome}
use Rattle.std.proofs.Common.{◌∙◌, ap, sym, subst, arith, add-zero, Bor, length-append, length-drop}
use Rattle.std.specs.Borrow.{MutBor}
use Rattle.std.proofs.Math.Nat.{ℕ_set}
use Rattle.std.specs.Option.{MatchOption}
use Rattle.std.proofs.lemmas.List.{drop-drop, length-take-le}
use borrow.Rule.Slice.PartMut.{put_mid}
use Rattle.bincode_spec.specs.Put.{put}
use Rattle.bincode_lemmas.specs.PutLaws.{put-none}
use Rattle.bincode_io.specs.declared.write.SliceWriter.{SliceWriter}

-- what `get(..n)` returns
pub front-given : (n : ℕ) (s : List ℕ) (r : Option (Bor (List ℕ))) →
    MatchOption r ((n < 0) ⊎ (length s < n)) (λ x. (0 ≤ n) × (n ≤ length s) × (x.now ≡ take (n - 0) s) × (length x.now + 0 ≡ n)) →
    IfSome r (λ x. n ≤ length s) × IfSome r (λ x. (length x.now ≡ n) × (x.now ≡ take n s)) × (IsSome r → n ≤ length s)
front-given n s None h = (tt, tt, λ some. absurd (cc))
front-given n s (Some x) h = let same : n - 0 ≡ n = omega arith in (h.1, (omega (arith, h.3), rw same at h.2), λ some. h.1)

-- a copy into the middle
pub copied : (at room : ℕ) (s part piece : List ℕ) → part ≡ piece → room ≡ length piece →
    put_mid at room s part ≡ put at piece s
copied at room s part piece is e =
    ap (λ l. take at s ++ (l ++ drop room (drop at s))) is
    ∙ ap (λ l. take at s ++ (piece ++ l)) (drop-drop room at s ∙ ap (λ n. drop (at + n) s) e)

-- writing into a list keeps its length
pub put-length : (n : ℕ) (piece s : List ℕ) → n + length piece ≤ length s → length (put n piece s) ≡ length s
put-length n piece s within =
    let front = length-take-le n s (omega arith) in
    let rest = length-drop (n + length piece) s in
    let behind = length-append piece (drop (n + length piece) s) in
    let whole = length-append (take n s) (piece ++ drop (n + length piece) s) in
    omega arith

abbrev writer : (t : MutBor (List ℕ)) (n l : ℕ) → n + l ≡ length t.now → SliceWriter
writer t n l k = record { slice = t; written = n; left = l; within = k }

same-writer : (s t : MutBor (List ℕ)) (m n i j : ℕ) (h : m + i ≡ length s.now) (k : n + j ≡ length t.now) →
    s ≡ t → m ≡ n → i ≡ j → writer s m i h ≡ writer t n j k
same-writer s t m n i j h k p q r =
    subst (λ (u : MutBor (List ℕ)). (g : n + j ≡ length u.now) → writer s m i h ≡ writer u n j g) p
    (subst (λ (a : ℕ). (g : a + j ≡ length s.now) → writer s m i h ≡ writer s a j g) q
    (subst (λ (b : ℕ). (g : m + b ≡ length s.now) → writer s m i h ≡ writer s m b g) r
    (λ g. ap (writer s m i) (ℕ_set _ _ h g)))) k

-- putting the empty piece leaves the writer as it was
pub unwritten : (w : SliceWriter) (x piece : List ℕ) (n l : ℕ) (k : n + l ≡ length x) → x ≡ put w.written piece w.slice.now →
    n ≡ w.written + length piece → l ≡ w.left - length piece → piece ≡ [] → writer (record w.slice { now = x }) n l k ≡ w
unwritten w x piece n l k put_is count rest empty =
    let all : w.left - 0 ≡ w.left = omega arith in
    same-writer (record w.slice { now = x }) w.slice n w.written l w.left k w.within
    (ap (λ (t : List ℕ). let u : MutBor (List ℕ) = record w.slice { now = t } in u) (put_is ∙ ap (λ t. put w.written t w.slice.now) empty ∙ sym (put-none w.written w.slice.now)))
    (count ∙ ap (λ (t : List ℕ). w.written + length t) empty ∙ add-zero w.written)
    (rest ∙ ap (λ (t : List ℕ). w.left - length t) empty ∙ all)
