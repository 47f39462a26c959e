-- Worked rows: each row is a statement about the formats of types that it is given.
use Rattle.std.specs.Prelude.{Some, None, ◌≡◌, ℕ, ℤ, pos, negsuc, true, List, [], ◌∷◌, ◌++◌, map, replicate}
use Rattle.bincode_base.specs.declared.config.Endianness.TheVariants.{Little, Big}
use Rattle.bincode_base.specs.declared.config.IntEncoding.TheVariants.{Fixed, Variable}
use Rattle.bincode_base.specs.declared.error.IntegerType.TheVariants.{U16, U32, U64, U128, I16, I32, I128, Isize, Reserved}
use Rattle.bincode_base.specs.Setting.{Setting}
use Rattle.bincode_spec.specs.Number.{zigzag}
use Rattle.bincode_spec.specs.Fault.{End, InvalidInteger, Zero, UnexpectedVariant, Between, OneOf, Utf8, InvalidChar, InvalidBool, InvalidDuration, NulAt}
use Rattle.bincode_spec.specs.Charge.{Step, Charge, Reserve, Release}
use Rattle.bincode_spec.specs.Format.{Format, Took, Failed}
use Rattle.bincode_spec.specs.Meaning.{Meaning, Truth, Number, Character, Bytes, Nothing, Choice, IsNumber, list_meaning}
use Rattle.bincode_spec.specs.Allowed.{AllowedWord}
use Rattle.bincode_spec.specs.Layers.Laws.{steps_of}
use Rattle.bincode_spec.specs.Room.{IsWithinBounds, elements_after}
use Rattle.bincode_spec.specs.Words.{list, text, without_nul}

-- what is computed, and what docs/FORMAT.md expects
record Row (A : Type 0) : Type 0 where
  computed : A
  expected : A

infix 70 ◌gives◌
abbrev ◌gives◌ : {A : Type 0} → A → A → Row A
a gives b = record { computed = a; expected = b }

abbrev AllHold : {A : Type 0} → List (Row A) → Type 0
AllHold rows = map (λ row. row.computed) rows ≡ map (λ row. row.expected) rows

-- the format of a type, under each setting
abbrev pub Formats : Type 1
Formats = Setting → Format Meaning

abbrev pub standard : Setting
standard = record { order = Little; encoding = Variable }

abbrev pub standard_big : Setting
standard_big = record { order = Big; encoding = Variable }

abbrev pub legacy : Setting
legacy = record { order = Little; encoding = Fixed }

abbrev pub legacy_big : Setting
legacy_big = record { order = Big; encoding = Fixed }

-- a number from 0 on
abbrev number : ℕ → Meaning
number n = Number (pos n)

-- unsigned numbers
abbrev pub UnsignedRows : Formats → Formats → Formats → Formats → Formats → Formats → Type 0
UnsignedRows u8 u16 u32 u64 u128 non_zero_u16 = AllHold (
    (u8 standard).read (251 ∷ []) gives Took (number 251) [] (Charge 1 ∷ []) ∷
    (u32 standard).read (250 ∷ []) gives Took (number 250) [] (Charge 4 ∷ []) ∷
    (u32 standard).read (251 ∷ 251 ∷ 0 ∷ []) gives Took (number 251) [] (Charge 4 ∷ []) ∷
    (u32 standard).read (251 ∷ 255 ∷ 255 ∷ []) gives Took (number 65535) [] (Charge 4 ∷ []) ∷
    (u32 standard).read (252 ∷ 0 ∷ 0 ∷ 1 ∷ 0 ∷ 9 ∷ 8 ∷ []) gives Took (number 65536) (9 ∷ 8 ∷ []) (Charge 4 ∷ []) ∷
    (u32 legacy_big).read (0 ∷ 0 ∷ 0 ∷ 5 ∷ []) gives Took (number 5) [] (Charge 4 ∷ []) ∷
    (u16 standard).read (251 ∷ 0 ∷ 10 ∷ []) gives Took (number 2560) [] (Charge 2 ∷ []) ∷
    (u16 standard_big).read (251 ∷ 0 ∷ 10 ∷ []) gives Took (number 10) [] (Charge 2 ∷ []) ∷
    (u64 standard).read (253 ∷ 0 ∷ 0 ∷ 0 ∷ 0 ∷ 0 ∷ 0 ∷ 0 ∷ 10 ∷ []) gives Took (number 720575940379279360) [] (Charge 8 ∷ []) ∷
    (u64 standard_big).read (253 ∷ 0 ∷ 0 ∷ 0 ∷ 0 ∷ 0 ∷ 0 ∷ 0 ∷ 10 ∷ []) gives Took (number 10) [] (Charge 8 ∷ []) ∷
    (u128 standard).read (254 ∷ replicate 16 255) gives Took (number 340282366920938463463374607431768211455) [] (Charge 16 ∷ []) ∷
    (u128 standard).read (254 ∷ replicate 15 0 ++ 10 ∷ []) gives Took (number 13292279957849158729038070602803445760) [] (Charge 16 ∷ []) ∷
    -- longer than needed
    (u32 standard).read (10 ∷ []) gives Took (number 10) [] (Charge 4 ∷ []) ∷
    (u32 standard).read (251 ∷ 10 ∷ 0 ∷ []) gives Took (number 10) [] (Charge 4 ∷ []) ∷
    (u32 standard).read (252 ∷ 10 ∷ 0 ∷ 0 ∷ 0 ∷ []) gives Took (number 10) [] (Charge 4 ∷ []) ∷
    -- tags that are too wide
    (u16 standard).read (252 ∷ []) gives Failed (InvalidInteger U16 U32) (Charge 2 ∷ []) ∷
    (u64 standard).read (254 ∷ replicate 8 0) gives Failed (InvalidInteger U64 U128) (Charge 8 ∷ []) ∷
    (u128 standard).read (255 ∷ replicate 16 0) gives Failed (InvalidInteger U128 Reserved) (Charge 16 ∷ []) ∷
    -- too short
    (u8 standard).read [] gives Failed (End (Some 1)) (Charge 1 ∷ []) ∷
    (u64 standard).read [] gives Failed (End (Some 1)) (Charge 8 ∷ []) ∷
    (u16 standard).read (251 ∷ []) gives Failed (End (Some 2)) (Charge 2 ∷ []) ∷
    (u16 standard).read (251 ∷ 0 ∷ []) gives Failed (End (Some 1)) (Charge 2 ∷ []) ∷
    (u64 standard).read (253 ∷ 0 ∷ 0 ∷ 0 ∷ []) gives Failed (End (Some 5)) (Charge 8 ∷ []) ∷
    (u32 legacy).read (0 ∷ 0 ∷ 0 ∷ []) gives Failed (End (Some 1)) (Charge 4 ∷ []) ∷
    -- zeros, in each spelling
    (non_zero_u16 standard).read (0 ∷ []) gives Failed (Zero U16) (Charge 2 ∷ []) ∷
    (non_zero_u16 standard).read (251 ∷ 0 ∷ 0 ∷ []) gives Failed (Zero U16) (Charge 2 ∷ []) ∷
    (non_zero_u16 standard).read (7 ∷ []) gives Took (number 7) [] (Charge 2 ∷ []) ∷
    [])

-- signed numbers
abbrev pub SignedRows : Formats → Formats → Formats → Formats → Formats → Formats → Formats → Type 0
SignedRows i8 i16 i32 i64 i128 isize non_zero_i16 = AllHold (
    (i8 standard).read (255 ∷ []) gives Took (Number (negsuc 0)) [] (Charge 1 ∷ []) ∷
    (i16 standard).read (1 ∷ []) gives Took (Number (negsuc 0)) [] (Charge 2 ∷ []) ∷
    (i16 standard).read (3 ∷ []) gives Took (Number (negsuc 1)) [] (Charge 2 ∷ []) ∷
    (i16 standard).read (251 ∷ 0 ∷ 2 ∷ []) gives Took (number 256) [] (Charge 2 ∷ []) ∷
    (i16 standard_big).read (251 ∷ 2 ∷ 0 ∷ []) gives Took (number 256) [] (Charge 2 ∷ []) ∷
    (i32 standard).read (252 ∷ 128 ∷ 56 ∷ 1 ∷ 0 ∷ []) gives Took (number 40000) [] (Charge 4 ∷ []) ∷
    (i32 legacy).read (255 ∷ 255 ∷ 255 ∷ 255 ∷ []) gives Took (Number (negsuc 0)) [] (Charge 4 ∷ []) ∷
    (i64 standard).read (253 ∷ replicate 8 255) gives Took (Number (negsuc 9223372036854775807)) [] (Charge 8 ∷ []) ∷
    (i128 standard).read (254 ∷ 0 ∷ 0 ∷ 152 ∷ 98 ∷ 112 ∷ 179 ∷ 79 ∷ 49 ∷ 1 ∷ 0 ∷ 0 ∷ 0 ∷ 0 ∷ 0 ∷ 0 ∷ 0 ∷ []) gives Took (Number (pos 11000000000000000000)) [] (Charge 16 ∷ []) ∷
    -- tags that are too wide
    (i16 standard).read (252 ∷ []) gives Failed (InvalidInteger I16 I32) (Charge 2 ∷ []) ∷
    (isize standard).read (254 ∷ []) gives Failed (InvalidInteger Isize I128) (Charge 8 ∷ []) ∷
    -- zero, and another number
    (non_zero_i16 standard).read (0 ∷ []) gives Failed (Zero I16) (Charge 2 ∷ []) ∷
    (non_zero_i16 standard).read (1 ∷ []) gives Took (Number (negsuc 0)) [] (Charge 2 ∷ []) ∷
    [])

-- booleans, and what has parts
abbrev pub WholeRows : Formats → Formats → Formats → Formats → Formats → Formats → Formats → Type 0
WholeRows bool unit pair five two_u16 two_units no_u16 = AllHold (
    (bool standard).read (1 ∷ []) gives Took (Truth true) [] (Charge 1 ∷ []) ∷
    (bool standard).read (2 ∷ []) gives Failed (InvalidBool 2) (Charge 1 ∷ []) ∷
    (unit standard).read (5 ∷ []) gives Took Nothing (5 ∷ []) [] ∷
    (pair standard).read (1 ∷ 251 ∷ 44 ∷ 1 ∷ []) gives Took (list_meaning (number 1 ∷ number 300 ∷ [])) [] (Charge 1 ∷ Charge 4 ∷ []) ∷
    (pair standard).read (1 ∷ []) gives Failed (End (Some 1)) (Charge 1 ∷ Charge 4 ∷ []) ∷
    (five standard).read (0 ∷ 10 ∷ 251 ∷ 32 ∷ 78 ∷ 97 ∷ 0 ∷ 1 ∷ 2 ∷ 3 ∷ [])
    gives Took (list_meaning (number 0 ∷ number 10 ∷ number 10000 ∷ Character 97 ∷ list_meaning (number 0 ∷ number 1 ∷ number 2 ∷ number 3 ∷ []) ∷ [])) []
    (Charge 1 ∷ Charge 4 ∷ Charge 16 ∷ Charge 1 ∷ Reserve 4 1 ∷ Release 1 ∷ Charge 1 ∷ Release 1 ∷ Charge 1 ∷ Release 1 ∷ Charge 1 ∷ Release 1 ∷ Charge 1 ∷ []) ∷
    (two_u16 standard).read (5 ∷ 6 ∷ []) gives Took (list_meaning (number 5 ∷ number 6 ∷ [])) [] (Reserve 2 2 ∷ Release 2 ∷ Charge 2 ∷ Release 2 ∷ Charge 2 ∷ []) ∷
    (two_units standard).read (5 ∷ []) gives Took (list_meaning (Nothing ∷ Nothing ∷ [])) (5 ∷ []) (Reserve 2 1 ∷ Release 1 ∷ Release 1 ∷ []) ∷
    (no_u16 standard).read (5 ∷ []) gives Took Nothing (5 ∷ []) (Reserve 0 2 ∷ []) ∷
    [])

-- characters
abbrev pub CharacterRows : Formats → Type 0
CharacterRows char = AllHold (
    (char standard).read (65 ∷ []) gives Took (Character 65) [] (Charge 1 ∷ []) ∷
    (char standard).read (226 ∷ 130 ∷ 172 ∷ []) gives Took (Character 8364) [] (Charge 3 ∷ []) ∷
    (char standard).read [] gives Failed (End (Some 1)) [] ∷
    (char standard).read (226 ∷ 130 ∷ []) gives Failed (End (Some 1)) (Charge 3 ∷ []) ∷
    (char standard).read (128 ∷ []) gives Failed (InvalidChar (128 ∷ 0 ∷ 0 ∷ 0 ∷ [])) [] ∷
    (char standard).read (237 ∷ 160 ∷ 128 ∷ []) gives Failed (InvalidChar (237 ∷ 160 ∷ 128 ∷ 0 ∷ [])) (Charge 3 ∷ []) ∷
    [])

-- choices
abbrev pub ChoiceRows : Formats → Formats → Formats → Formats → Formats → Formats → Formats → Type 0
ChoiceRows option_u8 option_u32 option_bool result_u8 result_unit bound_u8 far = AllHold (
    (option_u8 standard).read (0 ∷ 9 ∷ []) gives Took (Choice 0 Nothing) (9 ∷ []) (Charge 1 ∷ []) ∷
    (option_u32 legacy).read (1 ∷ 5 ∷ 0 ∷ 0 ∷ 0 ∷ []) gives Took (Choice 1 (number 5)) [] (Charge 1 ∷ Charge 4 ∷ []) ∷
    (option_u8 standard).read (2 ∷ []) gives Failed (UnexpectedVariant (Between 0 1) 2) (Charge 1 ∷ []) ∷
    (option_bool standard).read (1 ∷ 2 ∷ []) gives Failed (InvalidBool 2) (Charge 1 ∷ Charge 1 ∷ []) ∷
    (result_u8 legacy).read (0 ∷ 0 ∷ 0 ∷ 0 ∷ 5 ∷ []) gives Took (Choice 0 (number 5)) [] (Charge 4 ∷ Charge 1 ∷ []) ∷
    (result_unit standard).read (1 ∷ 7 ∷ []) gives Took (Choice 1 (number 7)) [] (Charge 4 ∷ Charge 1 ∷ []) ∷
    (result_u8 standard).read (2 ∷ []) gives Failed (UnexpectedVariant (Between 0 1) 2) (Charge 4 ∷ []) ∷
    (bound_u8 standard).read (2 ∷ 7 ∷ []) gives Took (Choice 2 (number 7)) [] (Charge 4 ∷ Charge 1 ∷ []) ∷
    (bound_u8 standard).read (3 ∷ []) gives Failed (UnexpectedVariant (Between 0 2) 3) (Charge 4 ∷ []) ∷
    (far standard).read (5 ∷ 7 ∷ []) gives Took (Choice 5 (number 7)) [] (Charge 4 ∷ Charge 1 ∷ []) ∷
    (far standard).read (251 ∷ 44 ∷ 1 ∷ 7 ∷ []) gives Took (Choice 300 (number 7)) [] (Charge 4 ∷ Charge 1 ∷ []) ∷
    (far standard).read (2 ∷ []) gives Failed (UnexpectedVariant (OneOf (1 ∷ 5 ∷ 300 ∷ [])) 2) (Charge 4 ∷ []) ∷
    [])

-- durations
abbrev pub DurationRows : Formats → Type 0
DurationRows duration = AllHold (
    (duration standard).read (252 ∷ 255 ∷ 255 ∷ 255 ∷ 255 ∷ 252 ∷ 44 ∷ 203 ∷ 154 ∷ 59 ∷ []) gives Took (list_meaning (number 4294967296 ∷ number 300 ∷ [])) [] (Charge 8 ∷ Charge 4 ∷ []) ∷
    (duration standard).read (253 ∷ 0 ∷ 0 ∷ 0 ∷ 0 ∷ 1 ∷ 0 ∷ 0 ∷ 0 ∷ 251 ∷ 44 ∷ 1 ∷ []) gives Took (list_meaning (number 4294967296 ∷ number 300 ∷ [])) [] (Charge 8 ∷ Charge 4 ∷ []) ∷
    (duration standard).read (253 ∷ replicate 8 255 ++ 252 ∷ 0 ∷ 202 ∷ 154 ∷ 59 ∷ []) gives Failed (InvalidDuration 18446744073709551615 1000000000) (Charge 8 ∷ Charge 4 ∷ []) ∷
    [])

-- addresses
abbrev pub AddressRows : Formats → Formats → Formats → Formats → Type 0
AddressRows ipv4 ip socket_v6 socket = AllHold (
    (ipv4 standard_big).read (1 ∷ 2 ∷ 3 ∷ 4 ∷ 9 ∷ []) gives Took (Bytes (1 ∷ 2 ∷ 3 ∷ 4 ∷ [])) (9 ∷ []) (Charge 4 ∷ []) ∷
    (ipv4 standard).read (127 ∷ []) gives Failed (End (Some 3)) (Charge 4 ∷ []) ∷
    (ip standard).read (0 ∷ 127 ∷ 0 ∷ 0 ∷ 1 ∷ []) gives Took (Choice 0 (Bytes (127 ∷ 0 ∷ 0 ∷ 1 ∷ []))) [] (Charge 4 ∷ Charge 4 ∷ []) ∷
    (ip legacy).read (0 ∷ 0 ∷ 0 ∷ 0 ∷ 127 ∷ 0 ∷ 0 ∷ 1 ∷ []) gives Took (Choice 0 (Bytes (127 ∷ 0 ∷ 0 ∷ 1 ∷ []))) [] (Charge 4 ∷ Charge 4 ∷ []) ∷
    (ip standard).read (2 ∷ []) gives Failed (UnexpectedVariant (Between 0 1) 2) (Charge 4 ∷ []) ∷
    (socket_v6 standard).read (replicate 15 0 ++ 1 ∷ 251 ∷ 57 ∷ 48 ∷ []) gives Took (list_meaning (Bytes (replicate 15 0 ++ 1 ∷ []) ∷ number 12345 ∷ [])) [] (Charge 16 ∷ Charge 2 ∷ []) ∷
    (socket standard).read (0 ∷ 1 ∷ 2 ∷ 3 ∷ 4 ∷ 80 ∷ []) gives Took (Choice 0 (list_meaning (Bytes (1 ∷ 2 ∷ 3 ∷ 4 ∷ []) ∷ number 80 ∷ []))) [] (Charge 4 ∷ Charge 4 ∷ Charge 2 ∷ []) ∷
    [])

-- lists of elements in these formats
abbrev pub ListRows : Formats → Formats → Formats → Formats → Formats → Formats → Type 0
ListRows u8 u16 u32 unit option_u8 option_unit = AllHold (
    (list standard 24 (list standard 1 (u8 standard))).read (1 ∷ 2 ∷ 7 ∷ 8 ∷ [])
    gives Took (list_meaning (list_meaning (number 7 ∷ number 8 ∷ []) ∷ [])) [] (Charge 8 ∷ Reserve 1 24 ∷ Release 24 ∷ Charge 8 ∷ Reserve 2 1 ∷ Release 1 ∷ Charge 1 ∷ Release 1 ∷ Charge 1 ∷ []) ∷
    (list standard 24 (list standard 1 (u8 standard))).read (2 ∷ 1 ∷ 9 ∷ 1 ∷ [])
    gives Failed (End None) (Charge 8 ∷ Reserve 2 24 ∷ Release 24 ∷ Charge 8 ∷ Reserve 1 1 ∷ Release 1 ∷ Charge 1 ∷ Release 24 ∷ Charge 8 ∷ Reserve 1 1 ∷ Release 1 ∷ Charge 1 ∷ []) ∷
    (list standard 1 (u8 standard)).read (3 ∷ 1 ∷ []) gives Failed (End None) (Charge 8 ∷ Reserve 3 1 ∷ Release 1 ∷ Charge 1 ∷ Release 1 ∷ Charge 1 ∷ []) ∷
    (list legacy 4 (u32 legacy)).read (replicate 8 0) gives Took Nothing [] (Charge 8 ∷ Reserve 0 4 ∷ []) ∷
    (list standard 1 (unit standard)).read (3 ∷ []) gives Took (list_meaning (Nothing ∷ Nothing ∷ Nothing ∷ [])) [] (Charge 8 ∷ Reserve 3 1 ∷ Release 1 ∷ Release 1 ∷ Release 1 ∷ []) ∷
    (list standard 2 (option_unit standard)).read (2 ∷ 0 ∷ 1 ∷ [])
    gives Took (list_meaning (Choice 0 Nothing ∷ Choice 1 Nothing ∷ [])) [] (Charge 8 ∷ Reserve 2 2 ∷ Release 2 ∷ Charge 1 ∷ Release 2 ∷ Charge 1 ∷ []) ∷
    (list standard 2 (u16 standard)).read (2 ∷ 255 ∷ []) gives Failed (InvalidInteger U16 Reserved) (Charge 8 ∷ Reserve 2 2 ∷ Release 2 ∷ Charge 2 ∷ []) ∷
    (list standard 2 (option_u8 standard)).read (2 ∷ 0 ∷ 2 ∷ []) gives Failed (UnexpectedVariant (Between 0 1) 2) (Charge 8 ∷ Reserve 2 2 ∷ Release 2 ∷ Charge 1 ∷ Release 2 ∷ Charge 1 ∷ []) ∷
    [])

-- texts
abbrev pub TextRows : Type 0
TextRows = AllHold (
    (text standard).read (4 ∷ 240 ∷ 159 ∷ 152 ∷ 128 ∷ []) gives Took (Bytes (240 ∷ 159 ∷ 152 ∷ 128 ∷ [])) [] (Charge 8 ∷ Charge 4 ∷ []) ∷
    (text standard).read (3 ∷ 70 ∷ 111 ∷ 111 ∷ []) gives Took (Bytes (70 ∷ 111 ∷ 111 ∷ [])) [] (Charge 8 ∷ Charge 3 ∷ []) ∷
    (text standard).read (2 ∷ 195 ∷ []) gives Failed (End None) (Charge 8 ∷ Charge 2 ∷ []) ∷
    (text standard).read (2 ∷ 195 ∷ 40 ∷ []) gives Failed Utf8 (Charge 8 ∷ Charge 2 ∷ []) ∷
    (without_nul standard).read (3 ∷ 65 ∷ 0 ∷ 66 ∷ []) gives Failed (NulAt 1) (Charge 8 ∷ Charge 3 ∷ []) ∷
    (without_nul standard).read (11 ∷ 72 ∷ 101 ∷ 108 ∷ 108 ∷ 111 ∷ 32 ∷ 119 ∷ 111 ∷ 114 ∷ 108 ∷ 100 ∷ [])
    gives Took (Bytes (72 ∷ 101 ∷ 108 ∷ 108 ∷ 111 ∷ 32 ∷ 119 ∷ 111 ∷ 114 ∷ 108 ∷ 100 ∷ [])) [] (Charge 8 ∷ Charge 11 ∷ []) ∷
    [])

-- the word that is written for a number
abbrev Writes : Format Meaning → ℤ → List ℕ → Type 0
Writes F z word = AllowedWord (IsNumber z) F word

abbrev pub UnsignedWords : Formats → Formats → Formats → Type 0
UnsignedWords u32 u64 u128 =
    Writes (u32 standard) (pos 250) (250 ∷ [])
    × Writes (u32 standard) (pos 251) (251 ∷ 251 ∷ 0 ∷ [])
    × Writes (u32 standard) (pos 300) (251 ∷ 44 ∷ 1 ∷ [])
    × Writes (u32 standard) (pos 65535) (251 ∷ 255 ∷ 255 ∷ [])
    × Writes (u32 standard) (pos 65536) (252 ∷ 0 ∷ 0 ∷ 1 ∷ 0 ∷ [])
    × Writes (u32 standard_big) (pos 65536) (252 ∷ 0 ∷ 1 ∷ 0 ∷ 0 ∷ [])
    × Writes (u64 standard) (pos 4294967296) (253 ∷ 0 ∷ 0 ∷ 0 ∷ 0 ∷ 1 ∷ 0 ∷ 0 ∷ 0 ∷ [])
    × Writes (u128 standard) (pos 340282366920938463463374607431768211455) (254 ∷ replicate 16 255)
    × Writes (u32 legacy) (pos 300) (44 ∷ 1 ∷ 0 ∷ 0 ∷ [])
    × Writes (u32 legacy_big) (pos 300) (0 ∷ 0 ∷ 1 ∷ 44 ∷ [])
    × Writes (u32 legacy_big) (pos 5) (0 ∷ 0 ∷ 0 ∷ 5 ∷ [])

abbrev pub SignedWords : Formats → Formats → Formats → Formats → Formats → Type 0
SignedWords i8 i16 i32 i64 i128 =
    Writes (i8 standard) (negsuc 0) (255 ∷ [])
    × Writes (i32 legacy) (negsuc 0) (255 ∷ 255 ∷ 255 ∷ 255 ∷ [])
    × Writes (i16 standard) (negsuc 0) (1 ∷ [])
    × Writes (i16 standard) (pos 256) (251 ∷ 0 ∷ 2 ∷ [])
    × Writes (i16 standard_big) (pos 256) (251 ∷ 2 ∷ 0 ∷ [])
    × Writes (i16 standard) (pos 32767) (251 ∷ 254 ∷ 255 ∷ [])
    × Writes (i32 standard) (pos 40000) (252 ∷ 128 ∷ 56 ∷ 1 ∷ 0 ∷ [])
    × Writes (i32 standard_big) (pos 40000) (252 ∷ 0 ∷ 1 ∷ 56 ∷ 128 ∷ [])
    × Writes (i64 standard) (pos 3000000000) (253 ∷ 0 ∷ 188 ∷ 160 ∷ 101 ∷ 1 ∷ 0 ∷ 0 ∷ 0 ∷ [])
    × Writes (i64 standard) (negsuc 9223372036854775807) (253 ∷ replicate 8 255)
    × Writes (i128 standard) (pos 11000000000000000000) (254 ∷ 0 ∷ 0 ∷ 152 ∷ 98 ∷ 112 ∷ 179 ∷ 79 ∷ 49 ∷ 1 ∷ 0 ∷ 0 ∷ 0 ∷ 0 ∷ 0 ∷ 0 ∷ 0 ∷ [])

-- zigzag
abbrev pub ZigzagRows : Type 0
ZigzagRows = AllHold (
    zigzag (pos 0) gives 0 ∷
    zigzag (negsuc 0) gives 1 ∷
    zigzag (pos 1) gives 2 ∷
    zigzag (negsuc 1) gives 3 ∷
    zigzag (pos 2) gives 4 ∷
    zigzag (negsuc 9223372036854775807) gives 18446744073709551615 ∷
    [])

-- how large a limit an input needs, under each setting
abbrev pub Needs : Type 0
Needs = Setting → List ℕ → ℕ

abbrev pub NeedRows : Needs → Needs → Needs → Needs → Needs → Type 0
NeedRows char duration two_u16 two_lists lists = AllHold (
    -- a character: its bytes, once the first of them is there and begins one
    char standard (65 ∷ []) gives 1 ∷
    char standard (226 ∷ 130 ∷ 172 ∷ []) gives 3 ∷
    char standard (226 ∷ 130 ∷ []) gives 3 ∷
    char standard (237 ∷ 160 ∷ 128 ∷ []) gives 3 ∷
    char standard (240 ∷ []) gives 4 ∷
    char standard (128 ∷ []) gives 0 ∷
    char standard [] gives 0 ∷
    -- a duration: 8 bytes for its seconds, then 4 for its nanoseconds
    duration standard (5 ∷ 7 ∷ []) gives 12 ∷
    duration standard (5 ∷ []) gives 12 ∷
    duration standard [] gives 8 ∷
    duration standard (254 ∷ []) gives 8 ∷
    duration standard (253 ∷ replicate 8 255 ++ 252 ∷ 0 ∷ 202 ∷ 154 ∷ 59 ∷ []) gives 12 ∷
    -- an array: the claims of its elements, each of which is released before the element is read
    two_u16 standard (5 ∷ 6 ∷ []) gives 4 ∷
    two_u16 standard [] gives 4 ∷
    two_u16 standard (252 ∷ []) gives 4 ∷
    two_lists standard (0 ∷ 0 ∷ []) gives 48 ∷
    two_lists standard (100 ∷ []) gives 132 ∷
    two_lists standard (0 ∷ 100 ∷ []) gives 116 ∷
    -- a list: 8 bytes for its length before
    lists standard (1 ∷ 2 ∷ 7 ∷ 8 ∷ []) gives 32 ∷
    lists standard (1 ∷ 100 ∷ []) gives 116 ∷
    lists legacy [] gives 8 ∷
    [])

-- the steps of reading a list that holds a list of two numbers
abbrev one_list : Formats → List Step
one_list lists = steps_of ((lists standard).read (1 ∷ 2 ∷ 7 ∷ 8 ∷ []))

-- how many elements follow a length prefix: one list, and two numbers in it; those of an array are not counted
abbrev pub ElementRows : Formats → Formats → Type 0
ElementRows lists arrays = AllHold (
    elements_after 0 (one_list lists) gives 3 ∷
    elements_after 0 (steps_of ((arrays standard).read (2 ∷ 1 ∷ 2 ∷ 3 ∷ 4 ∷ []))) gives 2 ∷
    [])

-- its word is bounded by a limit of 32, and not by one that the 24 bytes of the inner list pass
abbrev pub IsBounded : Formats → Type 0
IsBounded lists = IsWithinBounds 32 (1 ∷ 2 ∷ 7 ∷ 8 ∷ []) (one_list lists)

abbrev pub IsUnbounded : Formats → Type 0
IsUnbounded lists = ¬ (IsWithinBounds 23 (1 ∷ 2 ∷ 7 ∷ 8 ∷ []) (one_list lists))
