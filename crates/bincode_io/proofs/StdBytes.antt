-- The bytes of a number in std are its digits.
use Rattle.std.specs.Prelude.{◌≡◌, ℕ, zero, suc, ◌+◌, ◌-◌, ◌*◌, ◌/◌, ◌%◌, ◌^◌, ◌≤◌, List, [], ◌∷◌, ◌++◌, length, reverse, refl, slice_index}
use Rattle.std.specs.Int.{byte_at, byte_worth, bytes_low_first, bytes_high_first, sum_through}
use Rattle.std.proofs.Common.{sym, ◌∙◌, ap, arith}
use Rattle.std.proofs.Math.Nat.{pow-suc, div-div-eq-div-mul}
use Rattle.std.proofs.lemmas.List.{reverse-append, length-reverse}
use Rattle.bincode_spec.specs.Number.{low_first_number, low_first_digits}

byte_at_div : (i n : ℕ) → (n / 256 ^ i) % 256 ≡ byte_at i n
byte_at_div zero n = let d : n / 1 ≡ n = omega arith in ap (λ z. z % 256) d
byte_at_div (suc i) n = refl

div_pow : (i n : ℕ) → (n / 256 ^ i) / 256 ≡ n / 256 ^ suc i
div_pow i n = div-div-eq-div-mul n (256 ^ i) 256 ∙ ap (λ z. n / z) (sym (pow-suc 256 i))

digits_from : (k i n : ℕ) → low_first_digits k (n / 256 ^ i) ≡ bytes_low_first i k n
digits_from zero i n = refl
digits_from (suc k) i n = rw (byte_at_div i n, div_pow i n) (ap (λ z. byte_at i n ∷ z) (digits_from k (suc i) n))

-- the bytes of a number, the lowest first
pub low_first-std : (k n : ℕ) → bytes_low_first 0 k n ≡ low_first_digits k n
low_first-std k n = let d : n / 1 ≡ n = omega arith in sym (digits_from k 0 n) ∙ ap (low_first_digits k) d

bytes_snoc : (k i n : ℕ) → bytes_low_first i (suc k) n ≡ bytes_low_first i k n ++ byte_at (i + k) n ∷ []
bytes_snoc zero i n = let e : i + 0 ≡ i = omega arith in rw e refl
bytes_snoc (suc k) i n = let e : suc i + k ≡ i + suc k = omega arith in ap (λ z. byte_at i n ∷ z) (bytes_snoc k (suc i) n ∙ ap (λ z. bytes_low_first (suc i) k n ++ byte_at z n ∷ []) e)

high_first_reverse : (k n : ℕ) → bytes_high_first k n ≡ reverse (bytes_low_first 0 k n)
high_first_reverse zero n = refl
high_first_reverse (suc k) n =
    let e : 0 + k ≡ k = omega arith in
    let s : bytes_low_first 0 (suc k) n ≡ bytes_low_first 0 k n ++ byte_at k n ∷ [] = bytes_snoc k 0 n ∙ ap (λ z. bytes_low_first 0 k n ++ byte_at z n ∷ []) e in
    ap (λ z. byte_at k n ∷ z) (high_first_reverse k n) ∙ sym (reverse-append (bytes_low_first 0 k n) (byte_at k n ∷ [])) ∙ ap reverse (sym s)

-- the bytes of a number, the highest first
pub high_first-std : (k n : ℕ) → bytes_high_first k n ≡ reverse (low_first_digits k n)
high_first-std k n = high_first_reverse k n ∙ ap reverse (low_first-std k n)

-- a sum: its first summand, equal summands, and a common factor
sum_first : (f : ℕ → ℕ) (k : ℕ) → sum_through f (suc k) ≡ f 0 + sum_through (λ i. f (suc i)) k
sum_first f zero = refl
sum_first f (suc k) = let e = sum_first f k in omega arith

sum_same : (f g : ℕ → ℕ) (k : ℕ) → ((i : ℕ) → i ≤ k → f i ≡ g i) → sum_through f k ≡ sum_through g k
sum_same f g zero h = h 0 (omega arith)
sum_same f g (suc k) h =
    let e = sum_same f g k (λ i le. h i (omega arith)) in
    let l : f (suc k) ≡ g (suc k) = h (suc k) (omega arith) in
    omega arith

sum_times : (f : ℕ → ℕ) (k : ℕ) → sum_through (λ i. 256 * f i) k ≡ 256 * sum_through f k
sum_times f zero = refl
sum_times f (suc k) = let e = sum_times f k in omega arith

worth_pow : (i b : ℕ) → byte_worth i b ≡ b * 256 ^ i
worth_pow zero b = let e : b ≡ b * 1 = omega arith in e
worth_pow (suc i) b = refl

worth_suc : (i b : ℕ) → byte_worth (suc i) b ≡ 256 * byte_worth i b
worth_suc i b = rw (worth_pow i b, pow-suc 256 i) (let p = 256 ^ i in grind arith)

-- the number with these bytes, the lowest first
pub from_low_first-std : (k : ℕ) (bytes : List ℕ) → length bytes ≡ suc k → sum_through (λ i. byte_worth i (slice_index bytes i)) k ≡ low_first_number bytes
from_low_first-std k [] e = absurd (omega arith)
from_low_first-std zero (b ∷ []) e = let z : b ≡ b + 256 * 0 = omega arith in z
from_low_first-std zero (b ∷ c ∷ bytes) e = absurd (omega arith)
from_low_first-std (suc k) (b ∷ bytes) e =
    let l : length bytes ≡ suc k = omega arith in
    sum_first (λ i. byte_worth i (slice_index (b ∷ bytes) i)) k
    ∙ ap (λ z. b + z) (sum_same (λ i. byte_worth (suc i) (slice_index bytes i)) (λ i. 256 * byte_worth i (slice_index bytes i)) k (λ i le. worth_suc i (slice_index bytes i))
    ∙ sum_times (λ i. byte_worth i (slice_index bytes i)) k
    ∙ ap (λ z. 256 * z) (from_low_first-std k bytes l))

number_snoc : (xs : List ℕ) (b : ℕ) → low_first_number (xs ++ b ∷ []) ≡ low_first_number xs + b * 256 ^ length xs
number_snoc [] b = let e : b + 256 * 0 ≡ 0 + b * 1 = omega arith in e
number_snoc (x ∷ xs) b =
    let e = number_snoc xs b in
    let p : 256 ^ suc (length xs) ≡ 256 ^ length xs * 256 = pow-suc 256 (length xs) in
    rw (e, p) (let q = 256 ^ length xs in grind arith)

-- the number with these bytes, the highest first
pub from_high_first-std : (k : ℕ) (bytes : List ℕ) → length bytes ≡ suc k → sum_through (λ i. byte_worth (k - i) (slice_index bytes i)) k ≡ low_first_number (reverse bytes)
from_high_first-std k [] e = absurd (omega arith)
from_high_first-std zero (b ∷ []) e = let z : b ≡ b + 256 * 0 = omega arith in z
from_high_first-std zero (b ∷ c ∷ bytes) e = absurd (omega arith)
from_high_first-std (suc k) (b ∷ bytes) e =
    let l : length bytes ≡ suc k = omega arith in
    let r : length (reverse bytes) ≡ suc k = length-reverse bytes ∙ l in
    sum_first (λ i. byte_worth (suc k - i) (slice_index (b ∷ bytes) i)) k
    ∙ ap (λ z. byte_worth (suc k - 0) b + z) (sum_same (λ i. byte_worth (suc k - suc i) (slice_index bytes i)) (λ i. byte_worth (k - i) (slice_index bytes i)) k
    (λ i le. let d : suc k - suc i ≡ k - i = omega arith in ap (λ z. byte_worth z (slice_index bytes i)) d)
    ∙ from_high_first-std k bytes l)
    ∙ last
  where
    last : byte_worth (suc k - 0) b + low_first_number (reverse bytes) ≡ low_first_number (reverse (b ∷ bytes))
    last =
        let n : length (reverse bytes) ≡ suc k = length-reverse bytes ∙ omega arith in
        let s : low_first_number (reverse (b ∷ bytes)) ≡ low_first_number (reverse bytes) + b * 256 ^ length (reverse bytes) =
        ap low_first_number (reverse-append (b ∷ []) bytes) ∙ number_snoc (reverse bytes) b in
        let z : suc k - 0 ≡ suc k = omega arith in
        let w : byte_worth (suc k - 0) b ≡ b * 256 ^ suc k = ap (λ i. byte_worth i b) z in
        let t : b * 256 ^ length (reverse bytes) ≡ b * 256 ^ suc k = ap (λ z. b * 256 ^ z) n in
        omega arith
