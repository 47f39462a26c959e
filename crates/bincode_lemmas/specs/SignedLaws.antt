-- Zigzag and two's complement are bijective, and keep the width.
use Rattle.std.specs.Prelude.{◌≡◌, ℕ, zero, suc, ◌+◌, ◌*◌, ◌-◌, ◌/◌, ◌%◌, ◌^◌, ◌<◌, ◌≤◌, ◌⊎◌, true, false, nat_lt, ℤ, pos, negsuc, refl}
use Rattle.std.proofs.Common.{◌∙◌, ap, inl, inr, arith}
use Rattle.std.proofs.Math.Nat.{pow-suc}
use Rattle.std.proofs.lemmas.Bool.{lt-ltb, le-ltb, cases_lt}
use Rattle.bincode_base.specs.declared.config.IntEncoding.{IntEncoding}
use Rattle.bincode_base.specs.declared.config.IntEncoding.TheVariants.{Fixed, Variable}
use Rattle.bincode_spec.specs.Number.{zigzag, unzigzag, FitsIn, two_complement, from_two_complement}
use Rattle.bincode_spec.specs.Integers.{integer_by, number_for}

half_of : (width : ℕ) → 0 < width → (half : ℕ) × (256 ^ width ≡ 2 * half)
half_of zero h = absurd (omega (arith, h))
half_of (suc width) h = (256 ^ width * 128, rw pow-suc (omega arith))

-- an integer is that of its number
pub zigzag-unzigzag : (z : ℤ) → unzigzag (zigzag z) ≡ z
zigzag-unzigzag (pos n) =
    let a : nat_lt 0 (2 * n % 2) ≡ false = le-ltb 0 (2 * n % 2) (omega arith) in
    let b : 2 * n / 2 ≡ n = omega arith in
    rw (a, b) refl
zigzag-unzigzag (negsuc n) =
    let a : nat_lt 0 ((2 * n + 1) % 2) ≡ true = lt-ltb 0 ((2 * n + 1) % 2) (omega arith) in
    let b : (2 * n + 1) / 2 ≡ n = omega arith in
    rw (a, b) refl

unzigzag_odd : (n : ℕ) → 0 < n % 2 → unzigzag n ≡ negsuc (n / 2)
unzigzag_odd n h = rw (lt-ltb 0 (n % 2) h) refl

unzigzag_even : (n : ℕ) → n % 2 ≤ 0 → unzigzag n ≡ pos (n / 2)
unzigzag_even n h = rw (le-ltb 0 (n % 2) h) refl

zigzag_by : (n : ℕ) → (0 < n % 2) ⊎ (n % 2 ≤ 0) → zigzag (unzigzag n) ≡ n
zigzag_by n (inl h) = ap zigzag (unzigzag_odd n h) ∙ omega (arith, h)
zigzag_by n (inr h) = ap zigzag (unzigzag_even n h) ∙ omega (arith, h)

-- a number is that of its integer
pub unzigzag-zigzag : (n : ℕ) → zigzag (unzigzag n) ≡ n
unzigzag-zigzag n = zigzag_by n (cases_lt 0 (n % 2))

-- an integer of `width` bytes has a number of `width` bytes
pub zigzag-fits : (width : ℕ) (z : ℤ) → 0 < width → FitsIn width z → zigzag z < 256 ^ width
zigzag-fits width (pos n) w h = h
zigzag-fits width (negsuc n) w h = let p = half_of width w in omega (arith, p.1, h)

unzigzag_fits_by : (width n : ℕ) → n < 256 ^ width → (0 < n % 2) ⊎ (n % 2 ≤ 0) → FitsIn width (unzigzag n)
unzigzag_fits_by width n h (inl k) = rw (unzigzag_odd n k) (let l : 2 * (n / 2) < 256 ^ width = omega (arith, h) in l)
unzigzag_fits_by width n h (inr k) = rw (unzigzag_even n k) (let l : 2 * (n / 2) < 256 ^ width = omega (arith, h) in l)

-- and conversely
pub unzigzag-fits : (width n : ℕ) → n < 256 ^ width → FitsIn width (unzigzag n)
unzigzag-fits width n h = unzigzag_fits_by width n h (cases_lt 0 (n % 2))

low_half : (width n : ℕ) → 2 * n < 256 ^ width → from_two_complement width n ≡ pos n
low_half width n h = rw (lt-ltb (2 * n) (256 ^ width) h) refl

high_half : (width n : ℕ) → 256 ^ width ≤ 2 * n → from_two_complement width n ≡ negsuc (256 ^ width - n - 1)
high_half width n h = rw (le-ltb (2 * n) (256 ^ width) h) refl

-- an integer is that of its two's complement
pub from_two_complement-two_complement : (width : ℕ) (z : ℤ) → 0 < width → FitsIn width z → from_two_complement width (two_complement width z) ≡ z
from_two_complement-two_complement width (pos n) w h = low_half width n h
from_two_complement-two_complement width (negsuc n) w h =
    let p = half_of width w in
    let l : 256 ^ width ≤ 2 * (256 ^ width - (n + 1)) = omega (arith, p.1, h) in
    let e : 256 ^ width - (256 ^ width - (n + 1)) - 1 ≡ n = omega (arith, p.1, h) in
    high_half width (256 ^ width - (n + 1)) l ∙ ap negsuc e

-- a two's complement has `width` bytes
pub two_complement-fits : (width : ℕ) (z : ℤ) → FitsIn width z → two_complement width z < 256 ^ width
two_complement-fits width (pos n) h = omega (arith, h)
two_complement-fits width (negsuc n) h = omega (arith, h)

two_complement_by : (width n : ℕ) → n < 256 ^ width → (2 * n < 256 ^ width) ⊎ (256 ^ width ≤ 2 * n) →
    (two_complement width (from_two_complement width n) ≡ n) × FitsIn width (from_two_complement width n)
two_complement_by width n h (inl k) = (ap (two_complement width) (low_half width n k), rw (low_half width n k) k)
two_complement_by width n h (inr k) =
    let l : 2 * (256 ^ width - n - 1) < 256 ^ width = omega (arith, h, k) in
    let e : 256 ^ width - (256 ^ width - n - 1 + 1) ≡ n = omega (arith, h, k) in
    (ap (two_complement width) (high_half width n k) ∙ e, rw (high_half width n k) l)

-- a number of `width` bytes is the two's complement of its integer
pub two_complement-from_two_complement : (width n : ℕ) → n < 256 ^ width → two_complement width (from_two_complement width n) ≡ n
two_complement-from_two_complement width n h = (two_complement_by width n h (cases_lt (2 * n) (256 ^ width))).0

-- and the integer has `width` bytes
pub from_two_complement-fits : (width n : ℕ) → n < 256 ^ width → FitsIn width (from_two_complement width n)
from_two_complement-fits width n h = (two_complement_by width n h (cases_lt (2 * n) (256 ^ width))).1

-- an integer is that of its number, in either encoding
pub integer_by-number_for : (width : ℕ) (encoding : IntEncoding) (z : ℤ) → 0 < width → FitsIn width z → integer_by width encoding (number_for width encoding z) ≡ z
integer_by-number_for width Fixed z w h = from_two_complement-two_complement width z w h
integer_by-number_for width Variable z w h = zigzag-unzigzag z

-- a number is that of its integer, in either encoding
pub number_for-integer_by : (width : ℕ) (encoding : IntEncoding) (n : ℕ) → n < 256 ^ width → number_for width encoding (integer_by width encoding n) ≡ n
number_for-integer_by width Fixed n h = two_complement-from_two_complement width n h
number_for-integer_by width Variable n h = unzigzag-zigzag n

-- an integer of `width` bytes has a number of `width` bytes, in either encoding
pub number_for-fits : (width : ℕ) (encoding : IntEncoding) (z : ℤ) → 0 < width → FitsIn width z → number_for width encoding z < 256 ^ width
number_for-fits width Fixed z w h = two_complement-fits width z h
number_for-fits width Variable z w h = zigzag-fits width z w h

-- and conversely
pub integer_by-fits : (width : ℕ) (encoding : IntEncoding) (n : ℕ) → n < 256 ^ width → FitsIn width (integer_by width encoding n)
integer_by-fits width Fixed n h = from_two_complement-fits width n h
integer_by-fits width Variable n h = unzigzag-fits width n h
