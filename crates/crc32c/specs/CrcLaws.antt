-- What follows from the definition: a check has 32 bits, and is made piece by piece.
use Rattle.std.specs.Prelude.{◌≡◌, ℕ, zero, suc, ◌-◌, ◌/◌, ◌%◌, ◌^◌, ◌<◌, ◌==◌, Bool, true, false, List, [], ◌∷◌, ◌++◌, bit_xor, if◌then◌else◌}
use Rattle.std.specs.List.{All}
use Rattle.std.proofs.Common.{refl, arith}
use Rattle.std.proofs.lemmas.List.Elements.{All-head, All-tail}
use Rattle.std.proofs.lemmas.Nat.{xor_lt}
use Rattle.crc32c.specs.Crc.{polynomial, divided, divided_by_bits, after_byte, after_bytes, crc32c}

chosen-bounded : (b : Bool) (x y : ℕ) → x < 2 ^ 32 → y < 2 ^ 32 → (if b then x else y) < 2 ^ 32
chosen-bounded true x y p q = p
chosen-bounded false x y p q = q

pub divided-bounded : (s : ℕ) → s < 2 ^ 32 → divided s < 2 ^ 32
divided-bounded s h =
    let half : s / 2 < 2 ^ 32 = omega (arith, h) in
    chosen-bounded (s % 2 == 1) (bit_xor (s / 2) polynomial) (s / 2) (xor_lt 32 (s / 2) polynomial half (omega arith)) half

bits-bounded : (n s : ℕ) → s < 2 ^ 32 → divided_by_bits n s < 2 ^ 32
bits-bounded zero s h = h
bits-bounded (suc n) s h = bits-bounded n (divided s) (divided-bounded s h)

after-bounded : (state : ℕ) (message : List ℕ) → state < 2 ^ 32 → All (λ b. b < 256) message → after_bytes state message < 2 ^ 32
after-bounded state [] h all = h
after-bounded state (byte ∷ bytes) h all =
    let small : byte < 2 ^ 32 = omega (arith, All-head (λ b. b < 256) byte bytes all) in
    after-bounded (after_byte state byte) bytes (bits-bounded 8 (bit_xor state byte) (xor_lt 32 state byte h small)) (All-tail (λ b. b < 256) byte bytes all)

pub crc32c-bounded : (message : List ℕ) → All (λ b. b < 256) message → crc32c message < 2 ^ 32
crc32c-bounded message all = xor_lt 32 (after_bytes (2 ^ 32 - 1) message) (2 ^ 32 - 1) (after-bounded (2 ^ 32 - 1) message (omega arith) all) (omega arith)

pub after-joined : (state : ℕ) (xs ys : List ℕ) → after_bytes state (xs ++ ys) ≡ after_bytes (after_bytes state xs) ys
after-joined state [] ys = refl
after-joined state (x ∷ xs) ys = after-joined (after_byte state x) xs ys
