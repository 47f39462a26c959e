-- Frames: a length, a word of that length, and a check over both. The two numbers have four bytes, the lowest first.
use Rattle.std.specs.Prelude.{◌≡◌, ◌≢◌, ◌⊎◌, ℕ, ◌+◌, ◌<◌, ◌≤◌, List, [], ◌++◌, length, take, drop}
use Rattle.std.specs.Int.{w32, from_le_bytes, to_le_bytes}
use Rattle.crc32c.specs.Crc.{crc32c}
use Rattle.frames.specs.declared.Frame.{Frame}
use Rattle.frames.specs.declared.Frame.TheVariants as variants

-- the bytes of a length
abbrev pub length_field : List ℕ → List ℕ
length_field word = to_le_bytes w32 (length word)

-- the check of a word goes over its length too, so that zeros are no frame
abbrev pub check_of : List ℕ → ℕ
check_of word = crc32c (length_field word ++ word)

-- the frame of a word
abbrev pub frame : List ℕ → List ℕ
frame word = length_field word ++ (word ++ to_le_bytes w32 (check_of word))

-- the length that a frame names
abbrev pub named_length : List ℕ → ℕ
named_length bytes = from_le_bytes w32 (take 4 bytes)

-- the word of this length, and what stands after it
abbrev pub framed_word : List ℕ → List ℕ
framed_word bytes = take (named_length bytes) (drop 4 bytes)

abbrev pub after_word : List ℕ → List ℕ
after_word bytes = drop (named_length bytes) (drop 4 bytes)

-- the check that a frame names, and the one that its length and word have
abbrev pub named_check : List ℕ → ℕ
named_check bytes = from_le_bytes w32 (take 4 (after_word bytes))

abbrev pub framed_check : List ℕ → ℕ
framed_check bytes = crc32c (take 4 bytes ++ framed_word bytes)

-- there is a length, which is allowed, and as many bytes as it names
abbrev pub IsThere : ℕ → List ℕ → Type 0
IsThere most bytes = (named_length bytes ≤ most) × (8 + named_length bytes ≤ length bytes)

-- what is read where a frame is to begin; each case excludes the others
abbrev pub Reads : ℕ → List ℕ → Frame → Type 0
Reads most bytes variants.End = bytes ≡ []
Reads most bytes variants.Torn = (bytes ≢ []) × ((length bytes < 4) ⊎ ((named_length bytes ≤ most) × (length bytes < 8 + named_length bytes)))
Reads most bytes (variants.TooLong n) = (4 ≤ length bytes) × (n ≡ named_length bytes) × (most < n)
Reads most bytes (variants.Damaged size) = IsThere most bytes × (size ≡ 8 + named_length bytes) × (named_check bytes ≢ framed_check bytes)
Reads most bytes (variants.Whole word size) = IsThere most bytes × (size ≡ 8 + named_length bytes) × (named_check bytes ≡ framed_check bytes) × (word.now ≡ framed_word bytes)
