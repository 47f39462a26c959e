-- Numbers as digits in base 256, and signed numbers as unsigned ones.
use Rattle.std.specs.Prelude.{ℕ, zero, suc, ◌+◌, ◌-◌, ◌*◌, ◌/◌, ◌%◌, ◌^◌, ◌<◌, List, [], ◌∷◌, ℤ, pos, negsuc, nat_lt, if◌then◌else◌, reverse}
use Rattle.bincode_base.specs.declared.config.Endianness.{Endianness}
use Rattle.bincode_base.specs.declared.config.Endianness.TheVariants.{Little, Big}

-- the number with these digits, the lowest first
abbrev pub low_first_number : List ℕ → ℕ
low_first_number [] = 0
low_first_number (digit ∷ digits) = digit + 256 * low_first_number digits

-- the lowest `width` digits of a number, the lowest first
abbrev pub low_first_digits : ℕ → ℕ → List ℕ
low_first_digits zero n = []
low_first_digits (suc width) n = (n % 256) ∷ low_first_digits width (n / 256)

-- the number with these digits in an order
abbrev pub number_of : Endianness → List ℕ → ℕ
number_of Little digits = low_first_number digits
number_of Big digits = low_first_number (reverse digits)

-- the `width` lowest digits of a number in an order
abbrev pub digits_of : Endianness → ℕ → ℕ → List ℕ
digits_of Little width n = low_first_digits width n
digits_of Big width n = reverse (low_first_digits width n)

-- an integer of `width` bytes in two's complement
abbrev pub FitsIn : ℕ → ℤ → Type 0
FitsIn width (pos n) = 2 * n < 256 ^ width
FitsIn width (negsuc n) = 2 * n < 256 ^ width

-- 0, -1, 1, -2, 2 are numbered 0, 1, 2, 3, 4, and so on
abbrev pub zigzag : ℤ → ℕ
zigzag (pos n) = 2 * n
zigzag (negsuc n) = 2 * n + 1

-- the integer with this number
abbrev pub unzigzag : ℕ → ℤ
unzigzag n = if nat_lt 0 (n % 2) then negsuc (n / 2) else pos (n / 2)

-- the number of `width` bytes that stands for an integer in two's complement
abbrev pub two_complement : ℕ → ℤ → ℕ
two_complement width (pos n) = n
two_complement width (negsuc n) = 256 ^ width - (n + 1)

-- the integer that a number of `width` bytes stands for in two's complement
abbrev pub from_two_complement : ℕ → ℕ → ℤ
from_two_complement width n = if nat_lt (2 * n) (256 ^ width) then pos n else negsuc (256 ^ width - n - 1)
