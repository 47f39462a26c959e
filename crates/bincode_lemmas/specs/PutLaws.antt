-- Writing into the middle of a list: nothing, and one piece after another.
use Rattle.std.specs.Prelude.{◌≡◌, ◌+◌, ◌≤◌, ℕ, List, [], ◌++◌, length, take, drop, refl}
use Rattle.std.proofs.Common.{sym, ◌∙◌, ap, arith, append_assoc, length-append}
use Rattle.std.proofs.Math.Seq.{take-append_seam, drop-append-add}
use Rattle.std.proofs.lemmas.List.{length-take-le, drop-drop, take-append-drop}
use Rattle.bincode_spec.specs.Put.{put}

-- writing nothing
pub put-none : (n : ℕ) (s : List ℕ) → s ≡ put n [] s
put-none n s = let e : n + 0 ≡ n = omega arith in rw e (sym (take-append-drop n s))

seam : (q d y : List ℕ) (m k : ℕ) → length q ≡ m → take m (q ++ d) ++ (y ++ drop (m + k) (q ++ d)) ≡ q ++ (y ++ drop k d)
seam q d y m k e = rw (← e, take-append_seam q d, drop-append-add q d k) refl

-- writing one piece after another writes their concatenation
pub put-join : (n : ℕ) (x y s : List ℕ) → n ≤ length s → put (n + length x) y (put n x s) ≡ put n (x ++ y) s
put-join n x y s h =
    let front : length (take n s ++ x) ≡ n + length x = length-append (take n s) x ∙ ap (λ k. k + length x) (length-take-le n s h) in
    let regroup : take n s ++ (x ++ drop (n + length x) s) ≡ (take n s ++ x) ++ drop (n + length x) s = sym (append_assoc (take n s) x (drop (n + length x) s)) in
    let step = seam (take n s ++ x) (drop (n + length x) s) y (n + length x) (length y) front in
    let past : drop (length y) (drop (n + length x) s) ≡ drop (n + length (x ++ y)) s =
    drop-drop (length y) (n + length x) s ∙ ap (λ k. drop k s) (let l = length-append x y in let g : (n + length x) + length y ≡ n + length (x ++ y) = omega arith in g) in
    ap (put (n + length x) y) regroup ∙ step ∙ ap (λ t. (take n s ++ x) ++ (y ++ t)) past ∙ append_assoc (take n s) x
    (y ++ drop (n + length (x ++ y)) s) ∙ ap (λ t. take n s ++ t) (sym (append_assoc x y (drop (n + length (x ++ y)) s)))
