-- The formats of the types, family by family.
use Rattle.std.specs.Prelude.{◌≡◌, ℕ, ◌+◌, ◌-◌, ◌*◌, ◌<◌, ◌/◌, ◌%◌, ◌^◌, nat_lt, ◌==◌, if◌then◌else◌, ℤ, pos, ◌&&◌, Bool, true, false}
use Rattle.std.specs.Prelude.{List, [], ◌∷◌, ◌++◌, take, Result, Ok, Err, Option, Some, None, position}
use Rattle.std.specs.Str.{is_utf8}
use Rattle.bincode_base.specs.declared.error.IntegerType.{IntegerType}
use Rattle.bincode_base.specs.declared.error.IntegerType.TheVariants as integers
use Rattle.bincode_base.specs.Setting.{Setting}
use Rattle.bincode_spec.specs.Fault.{Fault, Zero, UnexpectedVariant, Utf8, InvalidChar, InvalidBool, InvalidDuration, NulAt, Allowed, Between, OneOf}
use Rattle.bincode_spec.specs.Format.{Format, pure, fail, fixed_bytes, ◌>>=◌, without_count, from_result, map_format, written_as, charge_then, sequence}
use Rattle.bincode_spec.specs.Integers.{byte, unsigned_integer, unsigned_byte}
use Rattle.bincode_spec.specs.Meaning.{Meaning, Truth, Number, Character, Bytes, Nothing, Then, Choice, list_meaning}

-- numbers

-- an unsigned number, and a signed one
abbrev pub natural_number : Format ℕ → Format Meaning
natural_number F = map_format (λ n. Number (pos n)) F

abbrev pub integer_number : Format ℤ → Format Meaning
integer_number F = map_format Number F

-- a number that is not 0, from its absolute value
abbrev pub not_zero_of : {A : Type 0} → IntegerType → ℕ → A → Result A Fault
not_zero_of name size a = if size == 0 then Err (Zero name) else Ok a

abbrev pub not_zero_by : {A : Type 0} → (A → ℕ) → IntegerType → Format A → Format A
not_zero_by size name F = F >>= λ a. from_result (not_zero_of name (size a) a)

-- lengths and tags
abbrev pub len : Setting → Format ℕ
len = unsigned_integer integers.U64 8

abbrev pub tag : Setting → Format ℕ
tag = unsigned_integer integers.U32 4

-- no part, and a first part before the others
unfoldable pub nothing : Format Meaning
nothing = pure Nothing

unfoldable pub first_and : Format Meaning → Format Meaning → Format Meaning
first_and F others = F >>= λ m. map_format (Then m) others

-- four parts before the others
abbrev pub four_and : Format Meaning → Format Meaning → Format Meaning → Format Meaning → Format Meaning → Format Meaning
four_and F G H I others = first_and F (first_and G (first_and H (first_and I others)))

-- parts in order
abbrev pub tuple : List (Format Meaning) → Format Meaning
tuple [] = nothing
tuple (F ∷ others) = first_and F (tuple others)

-- truth values and choices

abbrev pub truth_of : ℕ → Result Meaning Fault
truth_of b = if b == 0 then Ok (Truth false) else if b == 1 then Ok (Truth true) else Err (InvalidBool b)

-- the byte that is written for it
abbrev pub truth_byte : Bool → ℕ
truth_byte v = if v then 1 else 0

abbrev pub truth : Format Meaning
truth = unsigned_byte >>= λ b. from_result (truth_of b)

-- a variant of a choice: its tag, and the format of its part
abbrev pub Variant : Type 1
Variant = ℕ × (Setting → Format Meaning)

abbrev pub variant_tags : List Variant → List ℕ
variant_tags [] = []
variant_tags (variant ∷ others) = variant.0 ∷ variant_tags others

-- the tags are consecutive, from `next` on
abbrev pub in_order : ℕ → List ℕ → Bool
in_order next [] = true
in_order next (tag ∷ tags) = (tag == next) && in_order (next + 1) tags

abbrev pub last_of : ℕ → List ℕ → ℕ
last_of before [] = before
last_of before (tag ∷ tags) = last_of tag tags

-- the valid tags in a fault: by the last one if they are consecutive from 0
abbrev pub allowed_tags : List ℕ → Allowed
allowed_tags tags = if in_order 0 tags then Between 0 (last_of 0 tags) else OneOf tags

-- one part if it is selected, else another
abbrev pub if_picked : Bool → Format Meaning → Format Meaning → Format Meaning
if_picked true F others = F
if_picked false F others = others

-- the part of the first variant that has the tag
abbrev pub part : Setting → List Variant → Allowed → ℕ → Format Meaning
part setting [] allowed found = fail (UnexpectedVariant allowed found)
part setting (variant ∷ others) allowed found = if_picked (found == variant.0) (map_format (Choice found) (variant.1 setting)) (part setting others allowed found)

-- what follows a tag
abbrev pub after_tag : List Variant → Setting → ℕ → Format Meaning
after_tag variants setting found = part setting variants (allowed_tags (variant_tags variants)) found

-- the tag, then the part that it selects
unfoldable pub tag_then_part : (Setting → Format ℕ) → List Variant → Setting → Format Meaning
tag_then_part tags variants setting = tags setting >>= after_tag variants setting

-- elements, each with its claim
abbrev pub array : ℕ → ℕ → Format Meaning → Format Meaning
array n share F = map_format list_meaning (sequence n share F)

abbrev pub list : Setting → ℕ → Format Meaning → Format Meaning
list setting share F = len setting >>= λ n. array n share F

-- length-prefixed bytes; they may be read in pieces, so that a fault leaves open how many bytes the input lacks
abbrev pub length_prefixed : Setting → Format (List ℕ)
length_prefixed setting = len setting >>= λ n. charge_then n (without_count (fixed_bytes n))

abbrev pub text_of : List ℕ → Result Meaning Fault
text_of bytes = if is_utf8 bytes then Ok (Bytes bytes) else Err Utf8

abbrev pub text : Setting → Format Meaning
text setting = length_prefixed setting >>= λ bytes. from_result (text_of bytes)

abbrev pub without_nul_of : List ℕ → Option ℕ → Result Meaning Fault
without_nul_of bytes None = Ok (Bytes bytes)
without_nul_of bytes (Some place) = Err (NulAt place)

abbrev pub without_nul : Setting → Format Meaning
without_nul setting = length_prefixed setting >>= λ bytes. from_result (without_nul_of bytes (position (λ b. b == 0) bytes))

-- characters

-- the number of bytes of a character, from its first byte
abbrev pub char_width : ℕ → Option ℕ
char_width first =
    if nat_lt first 128 then Some 1
    else if nat_lt first 194 then None
    else if nat_lt first 224 then Some 2
    else if nat_lt first 240 then Some 3
    else if nat_lt first 245 then Some 4
    else None

-- the digits in base 64 after those of a number
abbrev pub low_digits : ℕ → List ℕ → ℕ
low_digits n [] = n
low_digits n (b ∷ bytes) = low_digits (n * 64 + b % 64) bytes

abbrev pub code_point : List ℕ → ℕ
code_point [] = 0
code_point (first ∷ []) = first
code_point (first ∷ b ∷ []) = low_digits (first % 32) (b ∷ [])
code_point (first ∷ b ∷ c ∷ []) = low_digits (first % 16) (b ∷ c ∷ [])
code_point (first ∷ b ∷ c ∷ bytes) = low_digits (first % 8) (b ∷ c ∷ bytes)

-- the bytes read, filled up with zeros to four
abbrev pub four_bytes : List ℕ → List ℕ
four_bytes bytes = take 4 (bytes ++ 0 ∷ 0 ∷ 0 ∷ 0 ∷ [])

abbrev pub char_of : List ℕ → Result Meaning Fault
char_of bytes = if is_utf8 bytes then Ok (Character (code_point bytes)) else Err (InvalidChar (four_bytes bytes))

-- the bytes after the first one, and the check of all
abbrev pub rest_of_char : ℕ → ℕ → Format Meaning
rest_of_char first width = fixed_bytes (width - 1) >>= λ bytes. from_result (char_of (first ∷ bytes))

abbrev pub after_char : ℕ → Option ℕ → Format Meaning
after_char first None = fail (InvalidChar (four_bytes (first ∷ [])))
after_char first (Some width) = charge_then width (rest_of_char first width)

abbrev pub character : Format Meaning
character = byte >>= λ first. after_char first (char_width first)

-- seconds and nanoseconds, of which whole seconds are carried; written with nanoseconds below a second

abbrev pub second_in_nanos : ℕ
second_in_nanos = 1_000_000_000

abbrev pub duration_of : ℕ → ℕ → Result Meaning Fault
duration_of seconds nanos =
    if nat_lt (seconds + nanos / second_in_nanos) (2 ^ 64)
    then Ok (list_meaning (Number (pos (seconds + nanos / second_in_nanos)) ∷ Number (pos (nanos % second_in_nanos)) ∷ []))
    else Err (InvalidDuration seconds nanos)

abbrev pub seconds_and_nanos : Setting → Format (ℕ × ℕ)
seconds_and_nanos setting = unsigned_integer integers.U64 8 setting >>= λ seconds. map_format (λ nanos. (seconds, nanos)) (unsigned_integer integers.U32 4 setting)

abbrev pub duration : Setting → Format Meaning
duration setting =
    written_as (λ bytes meaning. (parts : ℕ × ℕ) × (parts.1 < second_in_nanos) × (duration_of parts.0 parts.1 ≡ Ok meaning) × (seconds_and_nanos setting).Written bytes parts)
    (seconds_and_nanos setting >>= λ parts. from_result (duration_of parts.0 parts.1))
