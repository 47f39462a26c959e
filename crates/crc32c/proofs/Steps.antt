-- Eight bits are divided out at once by a table.
use Rattle.std.specs.Prelude.{◌≡◌, ℕ, zero, suc, ◌+◌, ◌*◌, ◌/◌, ◌%◌, ◌^◌, ◌<◌, ◌==◌, List, [], ◌∷◌, length, Bool, true, false, ◌&&◌, slice_index_or, bit_xor}
use Rattle.std.proofs.Common.{◌∙◌, sym, ap, refl, arith, eqb-true}
use Rattle.std.proofs.lemmas.Nat.{xor_shr, xor_mod, xor_comm}
use Rattle.std.proofs.Math.Nat.{div-add-mod'}
use Rattle.std.specs.Int.Bits.{xor_zero_r, xor_shifted}
use Rattle.crc32c.specs.Crc.{divided_by_bits, after_byte, has_entries}
use Rattle.crc32c.specs.Linear.{both, xor-bits, high-bits}

-- a state by its low byte and what is above it
by-byte : (x : ℕ) → divided_by_bits 8 x ≡ bit_xor (divided_by_bits 8 (x % 256)) (x / 256)
by-byte x =
    let parts : x ≡ bit_xor (x / 256 * 2 ^ 8) (x % 256) = sym (div-add-mod' x 256) ∙ sym (xor_shifted (x / 256) 8 (x % 256) (omega arith)) in
    ap (divided_by_bits 8) parts ∙ (xor-bits 8 (x / 256 * 2 ^ 8) (x % 256) ∙ (ap (λ y. bit_xor y (divided_by_bits 8 (x % 256))) (high-bits 8 (x / 256)) ∙ xor_comm (x / 256) (divided_by_bits 8 (x % 256))))

pub by-table : (state byte : ℕ) → byte < 256 → bit_xor (divided_by_bits 8 (bit_xor (state % 256) byte)) (state / 256) ≡ after_byte state byte
by-table state byte small =
    let low : bit_xor state byte % 256 ≡ bit_xor (state % 256) byte = xor_mod state byte 8 ∙ ap (bit_xor (state % 256)) (omega (arith, small)) in
    let none : byte / 256 ≡ 0 = omega (arith, small) in
    let high : bit_xor state byte / 256 ≡ state / 256 = xor_shr state byte 8 ∙ (ap (bit_xor (state / 256)) none ∙ xor_zero_r (state / 256)) in
    sym (by-byte (bit_xor state byte) ∙ both (ap (divided_by_bits 8) low) high)

left-true : (s t : Bool) → (s && t) ≡ true → s ≡ true
left-true true t h = refl
left-true false t h = h

right-true : (s t : Bool) → (s && t) ≡ true → t ≡ true
right-true true t h = h
right-true false t h = let k = h in cc

pub entry-at : (n : ℕ) (xs : List ℕ) → has_entries n xs ≡ true → (i : ℕ) → i < length xs → slice_index_or xs i 0 ≡ divided_by_bits 8 (n + i)
entry-at n [] h i short = absurd (omega (arith, short))
entry-at n (x ∷ xs) h zero short =
    let here : n ≡ n + 0 = omega arith in
    eqb-true x (divided_by_bits 8 n) (left-true (x == divided_by_bits 8 n) (has_entries (suc n) xs) h) ∙ ap (divided_by_bits 8) here
entry-at n (x ∷ xs) h (suc i) short =
    let next : suc n + i ≡ n + suc i = omega arith in
    entry-at (suc n) xs (right-true (x == divided_by_bits 8 n) (has_entries (suc n) xs) h) i (omega (arith, short)) ∙ ap (divided_by_bits 8) next

pub entry-in : (xs : List ℕ) → has_entries 0 xs ≡ true → (i : ℕ) → i < length xs → slice_index_or xs i 0 ≡ divided_by_bits 8 i
entry-in xs h i short =
    let same : 0 + i ≡ i = omega arith in
    entry-at 0 xs h i short ∙ ap (divided_by_bits 8) same
