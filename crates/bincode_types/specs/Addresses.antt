-- IPv6 addresses: sixteen octets, kept as eight segments.
use Rattle.std.specs.Prelude.{◌≡◌, ℕ, nat_eq, ◌+◌, ◌*◌, ◌-◌, ◌<◌, ◌/◌, ◌%◌, Bool, true, false, List, [], ◌∷◌, length, refl}
use Rattle.std.specs.List.{All}
use Rattle.std.specs.Net.Addr.{octets_of, segments_of}
use Rattle.std.proofs.Common.{arith, sym, ap}
use Rattle.std.proofs.lemmas.List.Elements.{All-head, All-tail}
use lib.Pointwise.{pointwise, bytes_decides}

segment_same : (a b : ℕ) → a / 256 ≡ b / 256 → a % 256 ≡ b % 256 → a ≡ b
segment_same a b e f = omega (arith, e, f)

-- equal octets are of equal segments
segments_same : (xs ys : List ℕ) → octets_of xs ≡ octets_of ys → xs ≡ ys
segments_same [] [] e = refl
segments_same [] (y ∷ ys) e = absurd (cc)
segments_same (x ∷ xs) [] e = absurd (cc)
segments_same (x ∷ xs) (y ∷ ys) e =
    let high : x / 256 ≡ y / 256 = cc in
    let low : x % 256 ≡ y % 256 = cc in
    let rest : octets_of xs ≡ octets_of ys = cc in
    let first = segment_same x y high low in
    let others = segments_same xs ys rest in
    cc

both_or_none : (a b : Bool) → (a ≡ true → b ≡ true) → (b ≡ true → a ≡ true) → a ≡ b
both_or_none true b f g = sym (f refl)
both_or_none false true f g = g refl
both_or_none false false f g = refl

-- addresses are equal exactly if their octets are
pub segments-alike : (xs ys : List ℕ) → pointwise nat_eq (octets_of xs) (octets_of ys) ≡ pointwise nat_eq xs ys
segments-alike xs ys =
    both_or_none (pointwise nat_eq (octets_of xs) (octets_of ys)) (pointwise nat_eq xs ys)
    (λ e. (bytes_decides xs ys).1 (segments_same xs ys ((bytes_decides (octets_of xs) (octets_of ys)).0 e)))
    (λ e. (bytes_decides (octets_of xs) (octets_of ys)).1 (ap octets_of ((bytes_decides xs ys).0 e)))

-- octets from segments are the octets again
pub octets-come_back : (n : ℕ) (xs : List ℕ) → length xs ≡ 2 * n → All (λ b. b < 256) xs → octets_of (segments_of xs) ≡ xs
octets-come_back n [] even below = refl
octets-come_back n (a ∷ []) even below = absurd (omega arith)
octets-come_back n (a ∷ b ∷ xs) even below =
    let rest = All-tail (λ x. x < 256) a (b ∷ xs) below in
    let low : b < 256 = All-head (λ x. x < 256) b xs rest in
    let high : (a * 256 + b) / 256 ≡ a = omega arith in
    let remainder : (a * 256 + b) % 256 ≡ b = omega arith in
    let others = octets-come_back (n - 1) xs (omega arith) (All-tail (λ x. x < 256) b xs rest) in
    λ i. high i ∷ remainder i ∷ others i
