-- Dividing is linear: over bits a remainder of a sum is the sum of the remainders.
use Rattle.std.specs.Prelude.{◌≡◌, ◌⊎◌, ℕ, zero, suc, ◌*◌, ◌/◌, ◌%◌, ◌^◌, ◌<◌, ◌==◌, bit_xor, if◌then◌else◌}
use Rattle.std.proofs.Common.{◌∙◌, sym, ap, refl, inl, inr, arith}
use Rattle.std.proofs.lemmas.Nat.{xor_shr, xor_mod, xor_comm}
use Rattle.std.specs.Int.Bits.{xor_assoc, xor_self, xor_zero_l, shifted_half, shifted_even}
use Rattle.crc32c.specs.Crc.{polynomial, divided, divided_by_bits}

pub even-divided : (s : ℕ) → s % 2 ≡ 0 → divided s ≡ s / 2
even-divided s h = ap (λ b. if b == 1 then bit_xor (s / 2) polynomial else s / 2) h

pub odd-divided : (s : ℕ) → s % 2 ≡ 1 → divided s ≡ bit_xor (s / 2) polynomial
odd-divided s h = ap (λ b. if b == 1 then bit_xor (s / 2) polynomial else s / 2) h

below-two : (x : ℕ) → x < 2 → (x ≡ 0) ⊎ (x ≡ 1)
below-two zero h = inl refl
below-two (suc zero) h = inr refl
below-two (suc (suc x)) h = absurd (omega (arith, h))

pub parity : (s : ℕ) → (s % 2 ≡ 0) ⊎ (s % 2 ≡ 1)
parity s = below-two (s % 2) (omega arith)

pub both : {a b c d : ℕ} → a ≡ b → c ≡ d → bit_xor a c ≡ bit_xor b d
both {a} {b} {c} {d} p q = ap (λ x. bit_xor x c) p ∙ ap (bit_xor b) q

pub swapped : (a b c : ℕ) → bit_xor (bit_xor a b) c ≡ bit_xor (bit_xor a c) b
swapped a b c = xor_assoc a b c ∙ (ap (bit_xor a) (xor_comm b c) ∙ sym (xor_assoc a c b))

pub cancelled : (a b c : ℕ) → bit_xor (bit_xor a c) (bit_xor b c) ≡ bit_xor a b
cancelled a b c =
    xor_assoc a c (bit_xor b c) ∙ (ap (λ x. bit_xor a (bit_xor c x)) (xor_comm b c) ∙ (ap (bit_xor a) (sym (xor_assoc c c b)) ∙
    (ap (λ x. bit_xor a (bit_xor x b)) (xor_self c) ∙ ap (bit_xor a) (xor_zero_l b))))

pub xor-divided : (a b : ℕ) → divided (bit_xor a b) ≡ bit_xor (divided a) (divided b)
xor-divided a b =
    let half = xor_shr a b 1 in
    elim (parity a) [
      | inl p ↦ elim (parity b) [
        | inl q ↦ even-divided _ (xor_mod a b 1 ∙ both p q) ∙ (half ∙ sym (both (even-divided a p) (even-divided b q)))
        | inr q ↦ odd-divided _ (xor_mod a b 1 ∙ both p q) ∙ (ap (λ x. bit_xor x polynomial) half ∙ (xor_assoc (a / 2) (b / 2) polynomial ∙ sym (both (even-divided a p) (odd-divided b q))))
      ]
      | inr p ↦ elim (parity b) [
        | inl q ↦ odd-divided _ (xor_mod a b 1 ∙ both p q) ∙ (ap (λ x. bit_xor x polynomial) half ∙ (swapped (a / 2) (b / 2) polynomial ∙ sym (both (odd-divided a p) (even-divided b q))))
        | inr q ↦ even-divided _ (xor_mod a b 1 ∙ both p q) ∙ (half ∙ (sym (cancelled (a / 2) (b / 2) polynomial) ∙ sym (both (odd-divided a p) (odd-divided b q))))
      ]
    ]

pub xor-bits : (n a b : ℕ) → divided_by_bits n (bit_xor a b) ≡ bit_xor (divided_by_bits n a) (divided_by_bits n b)
xor-bits zero a b = refl
xor-bits (suc n) a b = ap (divided_by_bits n) (xor-divided a b) ∙ xor-bits n (divided a) (divided b)

pub high-bits : (n h : ℕ) → divided_by_bits n (h * 2 ^ n) ≡ h
high-bits zero h = omega arith
high-bits (suc n) h = ap (divided_by_bits n) (even-divided (h * 2 ^ suc n) (shifted_even h n) ∙ shifted_half h n) ∙ high-bits n h
