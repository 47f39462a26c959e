-- CRC-32C, the check of RFC 3720: the remainder of a message as a polynomial over bits, by 0x1EDC6F41. The bits of each
-- byte come lowest first, so that the state and the polynomial are written with their bits in reverse.
use Rattle.std.specs.Prelude.{◌≡◌, ℕ, zero, suc, ◌-◌, ◌/◌, ◌%◌, ◌^◌, ◌==◌, Bool, true, ◌&&◌, List, [], ◌∷◌, bit_xor, if◌then◌else◌}
use Rattle.crc32c.specs.declared.Crc32c.{Crc32c}

-- the polynomial, with its bits in reverse
abbrev pub polynomial : ℕ
polynomial = 0x82F63B78

-- one bit is divided out
abbrev pub divided : ℕ → ℕ
divided state = if state % 2 == 1 then bit_xor (state / 2) polynomial else state / 2

-- so many bits are
abbrev pub divided_by_bits : ℕ → ℕ → ℕ
divided_by_bits zero state = state
divided_by_bits (suc n) state = divided_by_bits n (divided state)

-- the state after one more byte
abbrev pub after_byte : ℕ → ℕ → ℕ
after_byte state byte = divided_by_bits 8 (bit_xor state byte)

-- the state after more bytes
abbrev pub after_bytes : ℕ → List ℕ → ℕ
after_bytes state [] = state
after_bytes state (byte ∷ bytes) = after_bytes (after_byte state byte) bytes

-- the check of a message: it begins with ones, and all bits are turned at the end
abbrev pub crc32c : List ℕ → ℕ
crc32c message = bit_xor (after_bytes (2 ^ 32 - 1) message) (2 ^ 32 - 1)

-- a check that has taken this message
abbrev pub Holds : Crc32c → List ℕ → Type 0
Holds check message = check.state ≡ after_bytes (2 ^ 32 - 1) message

-- a table from this place on has what eight bits make of each place
abbrev pub has_entries : ℕ → List ℕ → Bool
has_entries n [] = true
has_entries n (x ∷ xs) = (x == divided_by_bits 8 n) && has_entries (suc n) xs
