-- Digits are bytes, and give their number back.
use Rattle.std.specs.Prelude.{◌≡◌, ℕ, zero, suc, ◌-◌, ◌/◌, ◌%◌, ◌^◌, ◌<◌, List, [], ◌∷◌, length, reverse, refl}
use Rattle.std.specs.List.{All}
use Rattle.std.proofs.Common.{◌∙◌, ap, arith}
use Rattle.std.proofs.Math.Nat.{pow-suc, mod-add-div, div-lt_iff_lt-mul}
use Rattle.std.proofs.lemmas.List.{reverse-reverse, length-reverse, get_or-reverse}
use Rattle.std.proofs.lemmas.List.Elements.{All-nil, All-cons, All-head, All-tail}
use Rattle.bincode_base.specs.declared.config.Endianness.{Endianness}
use Rattle.bincode_base.specs.declared.config.Endianness.TheVariants.{Little, Big}
use Rattle.bincode_spec.specs.Number.{low_first_number, low_first_digits, number_of, digits_of}

length_low_first_digits : (width n : ℕ) → length (low_first_digits width n) ≡ width
length_low_first_digits zero n = refl
length_low_first_digits (suc width) n = ap suc (length_low_first_digits width (n / 256))

fewer : (width n : ℕ) → n < 256 ^ suc width → n / 256 < 256 ^ width
fewer width n h = (div-lt_iff_lt-mul {k = 256} (omega arith)).1 (rw pow-suc at h)

low_first_number_digits : (width n : ℕ) → n < 256 ^ width → low_first_number (low_first_digits width n) ≡ n
low_first_number_digits zero n h = omega (arith, h)
low_first_number_digits (suc width) n h = rw (low_first_number_digits width (n / 256) (fewer width n h)) (mod-add-div n 256)

low_first_number_below : (bytes : List ℕ) → All (λ b. b < 256) bytes → low_first_number bytes < 256 ^ length bytes
low_first_number_below [] h = omega arith
low_first_number_below (b ∷ bytes) h =
    let l : b < 256 = All-head (λ b. b < 256) b bytes h in
    let p : low_first_number bytes < 256 ^ length bytes = low_first_number_below bytes (All-tail (λ b. b < 256) b bytes h) in
    rw pow-suc (omega (arith, l, p))

All_reverse : (P : ℕ → Type 0) (xs : List ℕ) → All P xs → All P (reverse xs)
All_reverse P xs h = λ k d l. let m : k < length xs = omega (arith, l, length-reverse xs) in rw (get_or-reverse xs k d m) (h (length xs - 1 - k) d (omega (arith, m)))

-- a number has as many digits as are asked for
pub length-digits_of : (order : Endianness) (width n : ℕ) → length (digits_of order width n) ≡ width
length-digits_of Little width n = length_low_first_digits width n
length-digits_of Big width n = length-reverse (low_first_digits width n) ∙ length_low_first_digits width n

-- digits are bytes
low_first_digits_are_bytes : (width n : ℕ) → All (λ b. b < 256) (low_first_digits width n)
low_first_digits_are_bytes zero n = All-nil (λ b. b < 256)
low_first_digits_are_bytes (suc width) n = All-cons (λ b. b < 256) (n % 256) (low_first_digits width (n / 256)) (omega arith) (low_first_digits_are_bytes width (n / 256))

pub digits_of-are_bytes : (order : Endianness) (width n : ℕ) → All (λ b. b < 256) (digits_of order width n)
digits_of-are_bytes Little width n = low_first_digits_are_bytes width n
digits_of-are_bytes Big width n = All_reverse (λ b. b < 256) (low_first_digits width n) (low_first_digits_are_bytes width n)

-- a number of `width` bytes is the number of its digits
pub number_of-digits_of : (order : Endianness) (width n : ℕ) → n < 256 ^ width → number_of order (digits_of order width n) ≡ n
number_of-digits_of Little width n h = low_first_number_digits width n h
number_of-digits_of Big width n h = rw (reverse-reverse (low_first_digits width n)) (low_first_number_digits width n h)

-- `width` bytes are a number below 256^width
pub number_of-below : (order : Endianness) (width : ℕ) (bytes : List ℕ) → length bytes ≡ width → All (λ b. b < 256) bytes → number_of order bytes < 256 ^ width
number_of-below Little width bytes e h = rw (← e) (low_first_number_below bytes h)
number_of-below Big width bytes e h =
    let l : length (reverse bytes) ≡ width = length-reverse bytes ∙ e in
    rw (← l) (low_first_number_below (reverse bytes) (All_reverse (λ b. b < 256) bytes h))
