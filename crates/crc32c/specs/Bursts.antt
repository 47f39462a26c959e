-- Each change of at most 32 bits in a row changes the check.
use Rattle.std.specs.Prelude.{◌≡◌, ◌≢◌, ℕ, zero, suc, ◌+◌, ◌-◌, ◌*◌, ◌/◌, ◌^◌, ◌<◌, List, [], ◌∷◌, ◌++◌, length, bit_xor}
use Rattle.std.specs.List.{All}
use Rattle.std.proofs.Common.{◌∙◌, sym, ap, inl, inr, arith}
use Rattle.std.proofs.lemmas.List.Elements.{All-head, All-tail}
use Rattle.std.specs.Int.{w32, to_le_bytes}
use Rattle.std.proofs.lemmas.Nat.{xor_comm, from_le_bytes-to_le_bytes_4}
use Rattle.std.proofs.Math.Nat.{eq_of_mul-eq-mul_right, zero-mul}
use Rattle.std.proofs.lemmas.Nat.{pow_pos}
use Rattle.std.specs.Int.Bits.{xor_assoc, xor_self, xor_zero_l, xor_zero_r, xor_shifted, shifted_half, shifted_even}
use Rattle.crc32c.specs.CrcLaws.{divided-bounded, crc32c-bounded, after-joined}
use Rattle.crc32c.specs.Crc.{polynomial, divided, divided_by_bits, after_byte, after_bytes, crc32c}
use Rattle.crc32c.specs.Linear.{even-divided, odd-divided, parity, both, cancelled, xor-bits, high-bits}

-- a message as a number, the lowest byte first
abbrev pub number : List ℕ → ℕ
number [] = 0
number (byte ∷ bytes) = byte + number bytes * 2 ^ 8

bits-added : (m n s : ℕ) → divided_by_bits (m + n) s ≡ divided_by_bits n (divided_by_bits m s)
bits-added zero n s =
    let same : 0 + n ≡ n = omega arith in
    ap (λ k. divided_by_bits k s) same
bits-added (suc m) n s =
    let same : suc m + n ≡ suc (m + n) = omega arith in
    ap (λ k. divided_by_bits k s) same ∙ bits-added m n (divided s)

-- what equals its sum with another is told apart by the other alone
same-sum : (a b : ℕ) → bit_xor a b ≡ 0 → a ≡ b
same-sum a b h = sym (xor_zero_r a) ∙ (ap (bit_xor a) (sym (xor_self b)) ∙ (sym (xor_assoc a b b) ∙ (ap (λ x. bit_xor x b) h ∙ xor_zero_l b)))

-- of 32 bits nothing but 0 divides to 0: the polynomial has the highest of them
divided-none : (s : ℕ) → s < 2 ^ 32 → divided s ≡ 0 → s ≡ 0
divided-none s small h =
    elim (parity s) [
      | inl p ↦ let half = sym (even-divided s p) ∙ h in omega (arith, half, p)
      | inr p ↦ let half : s / 2 ≡ polynomial = same-sum (s / 2) polynomial (sym (odd-divided s p) ∙ h) in absurd (omega (arith, half, small))
    ]

bits-none : (n s : ℕ) → s < 2 ^ 32 → divided_by_bits n s ≡ 0 → s ≡ 0
bits-none zero s small h = h
bits-none (suc n) s small h = divided-none s small (bits-none n (divided s) (divided-bounded s small) h)

-- the state after a message is the remainder of the message as a number
after-number : (state : ℕ) (message : List ℕ) → All (λ b. b < 256) message → after_bytes state message ≡ divided_by_bits (8 * length message) (bit_xor state (number message))
after-number state [] all = sym (xor_zero_r state)
after-number state (byte ∷ bytes) all =
    let n = number bytes in
    let m = 8 * length bytes in
    let small : byte < 2 ^ 8 = All-head (λ b. b < 256) byte bytes all in
    let rest = after-number (after_byte state byte) bytes (All-tail (λ b. b < 256) byte bytes all) in
    let front : bit_xor (divided_by_bits 8 (bit_xor state byte)) n ≡ divided_by_bits 8 (bit_xor (bit_xor state byte) (n * 2 ^ 8)) =
    ap (bit_xor (divided_by_bits 8 (bit_xor state byte))) (sym (high-bits 8 n)) ∙ sym (xor-bits 8 (bit_xor state byte) (n * 2 ^ 8)) in
    let joined : bit_xor byte (n * 2 ^ 8) ≡ byte + n * 2 ^ 8 = xor_comm byte (n * 2 ^ 8) ∙ (xor_shifted n 8 byte small ∙ omega arith) in
    let bits : 8 * suc (length bytes) ≡ 8 + m = omega arith in
    rest ∙ (ap (divided_by_bits m) (front ∙ ap (divided_by_bits 8) (xor_assoc state byte (n * 2 ^ 8) ∙ ap (bit_xor state) joined)) ∙
    (sym (bits-added 8 m (bit_xor state (byte + n * 2 ^ 8))) ∙ ap (λ k. divided_by_bits k (bit_xor state (byte + n * 2 ^ 8))) (sym bits)))

-- a change of at most 32 bits in a row divides to 0 only where there is none
burst-none : (n i e : ℕ) → e < 2 ^ 32 → divided_by_bits n (e * 2 ^ i) ≡ 0 → e ≡ 0
burst-none zero i e small h = eq_of_mul-eq-mul_right (2 ^ i) (pow_pos i) e 0 (h ∙ sym (zero-mul (2 ^ i)))
burst-none (suc n) zero e small h =
    let same : e * 2 ^ 0 ≡ e = omega arith in
    sym same ∙ bits-none (suc n) (e * 2 ^ 0) (omega (arith, small, same)) h
burst-none (suc n) (suc i) e small h =
    burst-none n i e small (ap (divided_by_bits n) (sym (even-divided (e * 2 ^ suc i) (shifted_even e i) ∙ shifted_half e i)) ∙ h)

-- two messages of one length that differ in at most 32 bits in a row leave different states
pub burst-moves : (x y : List ℕ) → All (λ b. b < 256) x → All (λ b. b < 256) y → length x ≡ length y → (i e : ℕ) → 0 < e → e < 2 ^ 32 →
    bit_xor (number x) (number y) ≡ e * 2 ^ i → after_bytes (2 ^ 32 - 1) x ≢ after_bytes (2 ^ 32 - 1) y
burst-moves x y bx by one i e some small differ same =
    let ones = 2 ^ 32 - 1 in
    let n = 8 * length x in
    let a = bit_xor ones (number x) in
    let b = bit_xor ones (number y) in
    let of_x = after-number ones x bx in
    let of_y : after_bytes ones y ≡ divided_by_bits n b = after-number ones y by ∙ ap (λ k. divided_by_bits (8 * k) b) (sym one) in
    let sums : bit_xor a b ≡ e * 2 ^ i = both (xor_comm ones (number x)) (xor_comm ones (number y)) ∙ (cancelled (number x) (number y) ones ∙ differ) in
    let none : bit_xor (after_bytes ones x) (after_bytes ones y) ≡ 0 = ap (λ z. bit_xor z (after_bytes ones y)) same ∙ xor_self (after_bytes ones y) in
    let zeros : divided_by_bits n (e * 2 ^ i) ≡ 0 = ap (divided_by_bits n) (sym sums) ∙ (xor-bits n a b ∙ (sym (both of_x of_y) ∙ none)) in
    let empty = burst-none n i e small zeros in omega (arith, empty, some)

-- what is turned at the end of a check tells nothing
same-states : (a b : ℕ) → bit_xor a (2 ^ 32 - 1) ≡ bit_xor b (2 ^ 32 - 1) → a ≡ b
same-states a b h =
    same-sum a b (sym (cancelled a b (2 ^ 32 - 1)) ∙ (ap (λ z. bit_xor z (bit_xor b (2 ^ 32 - 1))) h ∙ xor_self (bit_xor b (2 ^ 32 - 1))))

-- Two messages of one length that differ in at most 32 bits in a row, from any bit on, have different checks.
pub burst-told : (x y : List ℕ) → All (λ b. b < 256) x → All (λ b. b < 256) y → length x ≡ length y → (i e : ℕ) → 0 < e → e < 2 ^ 32 →
    bit_xor (number x) (number y) ≡ e * 2 ^ i → crc32c x ≢ crc32c y
burst-told x y bx by one i e some small differ same =
    burst-moves x y bx by one i e some small differ (same-states (after_bytes (2 ^ 32 - 1) x) (after_bytes (2 ^ 32 - 1) y) same)

number-field : (n : ℕ) → n < 2 ^ 32 → number (to_le_bytes w32 n) ≡ n
number-field n small = let same = from_le_bytes-to_le_bytes_4 n small in omega (arith, same)

-- a message with its check after it leaves one state, whatever the message
pub residue : (message : List ℕ) → All (λ b. b < 256) message → All (λ b. b < 256) (to_le_bytes w32 (crc32c message)) →
    after_bytes (2 ^ 32 - 1) (message ++ to_le_bytes w32 (crc32c message)) ≡ divided_by_bits 32 (2 ^ 32 - 1)
residue message bytes field =
    let ones = 2 ^ 32 - 1 in
    let state = after_bytes ones message in
    let check = crc32c message in
    let sum : bit_xor state (bit_xor state ones) ≡ ones = sym (xor_assoc state state ones) ∙ (ap (λ x. bit_xor x ones) (xor_self state) ∙ xor_zero_l ones) in
    after-joined ones message (to_le_bytes w32 check) ∙ (after-number state (to_le_bytes w32 check) field ∙
    ap (divided_by_bits 32) (ap (bit_xor state) (number-field check (crc32c-bounded message bytes)) ∙ sum))
