-- What is read of frames: just what was framed, and no changed one.
use Rattle.std.specs.Prelude.{◌≡◌, ◌≢◌, ℕ, ◌+◌, ◌-◌, ◌*◌, ◌/◌, ◌%◌, ◌^◌, ◌<◌, ◌≤◌, List, [], ◌∷◌, ◌++◌, length, take, drop, bit_xor}
use Rattle.std.specs.Borrow.{Bor}
use Rattle.std.specs.List.{All}
use Rattle.std.specs.Int.{w32, from_le_bytes, to_le_bytes}
use Rattle.std.proofs.Common.{◌∙◌, ap, subst, sym, refl, arith, inl, inr, length-append}
use Rattle.std.proofs.Math.Seq.{take-append_seam, drop-append_seam}
use Rattle.std.proofs.lemmas.List.{append_assoc, take-append-le, take-append-drop, length-take-le, length-drop}
use Rattle.std.proofs.lemmas.List.Elements.{All-append, All-cons, All-nil, All-drop, All-take}
use Rattle.std.proofs.lemmas.Nat.{from_le_bytes-to_le_bytes_4}
use Rattle.crc32c.specs.Bursts.{number, burst-moves, residue}
use Rattle.crc32c.specs.Crc.{crc32c, after_bytes, divided_by_bits}
use Rattle.crc32c.specs.CrcLaws.{crc32c-bounded}
use Rattle.frames.specs.declared.Frame.{Frame}
use Rattle.frames.specs.declared.Frame.TheVariants as variants
use Rattle.frames.specs.Frames.{length_field, check_of, frame, named_length, framed_word, after_word, named_check, framed_check, Reads}

-- a whole frame of this word
abbrev pub IsWholeOf : List ℕ → Frame → Type 0
IsWholeOf word variants.End = ⊥
IsWholeOf word variants.Torn = ⊥
IsWholeOf word (variants.TooLong n) = ⊥
IsWholeOf word (variants.Damaged size) = ⊥
IsWholeOf word (variants.Whole read size) = (read.now ≡ word) × (size ≡ 8 + length word)

-- the bytes of a number of 32 bits
field-bytes : (n : ℕ) → All (λ b. b < 256) (to_le_bytes w32 n)
field-bytes n =
    let a = n / 256 % 256 in
    let b = n / 65536 % 256 in
    let c = n / 16777216 % 256 in
    let last : All (λ b. b < 256) (c ∷ []) = All-cons (λ b. b < 256) c [] (omega arith) (All-nil (λ b. b < 256)) in
    let third : All (λ b. b < 256) (b ∷ c ∷ []) = All-cons (λ b. b < 256) b (c ∷ []) (omega arith) last in
    let second : All (λ b. b < 256) (a ∷ b ∷ c ∷ []) = All-cons (λ b. b < 256) a (b ∷ c ∷ []) (omega arith) third in
    All-cons (λ b. b < 256) (n % 256) (a ∷ b ∷ c ∷ []) (omega arith) second

check-bounded : (word : List ℕ) → All (λ b. b < 256) word → check_of word < 2 ^ 32
check-bounded word bytes = crc32c-bounded (length_field word ++ word) (All-append (λ b. b < 256) (length_field word) word (field-bytes (length word)) bytes)

-- what stands after the length of a frame
rest-framed : (word rest : List ℕ) → drop 4 (frame word ++ rest) ≡ word ++ (to_le_bytes w32 (check_of word) ++ rest)
rest-framed word rest = append_assoc word (to_le_bytes w32 (check_of word)) rest

length-framed : (word rest : List ℕ) → length word < 2 ^ 32 → named_length (frame word ++ rest) ≡ length word
length-framed word rest short = from_le_bytes-to_le_bytes_4 (length word) short

same-word : (word rest : List ℕ) → length word < 2 ^ 32 → framed_word (frame word ++ rest) ≡ word
same-word word rest short =
    let more = to_le_bytes w32 (check_of word) ++ rest in
    ap (λ n. take n (drop 4 (frame word ++ rest))) (length-framed word rest short) ∙ (ap (take (length word)) (rest-framed word rest) ∙ take-append_seam word more)

same-after : (word rest : List ℕ) → length word < 2 ^ 32 → after_word (frame word ++ rest) ≡ to_le_bytes w32 (check_of word) ++ rest
same-after word rest short =
    let more = to_le_bytes w32 (check_of word) ++ rest in
    ap (λ n. drop n (drop 4 (frame word ++ rest))) (length-framed word rest short) ∙ (ap (drop (length word)) (rest-framed word rest) ∙ drop-append_seam word more)

check-framed : (word rest : List ℕ) → All (λ b. b < 256) word → length word < 2 ^ 32 → named_check (frame word ++ rest) ≡ check_of word
check-framed word rest bytes short =
    ap (λ more. from_le_bytes w32 (take 4 more)) (same-after word rest short) ∙ from_le_bytes-to_le_bytes_4 (check_of word) (check-bounded word bytes)

same-check : (word rest : List ℕ) → All (λ b. b < 256) word → length word < 2 ^ 32 → named_check (frame word ++ rest) ≡ framed_check (frame word ++ rest)
same-check word rest bytes short = check-framed word rest bytes short ∙ sym (ap (λ w. crc32c (length_field word ++ w)) (same-word word rest short))

size-framed : (word rest : List ℕ) → length (frame word ++ rest) ≡ 8 + (length word + length rest)
size-framed word rest =
    let field = to_le_bytes w32 (check_of word) in
    let joined = length-append (word ++ field) rest in
    let inner = length-append word field in omega (arith, joined, inner)

-- where a frame stands, with an allowed length, its word is read, whatever follows it
pub framed-read : (most : ℕ) (word rest : List ℕ) → All (λ b. b < 256) word → length word ≤ most → most < 2 ^ 32 → (r : Frame) → Reads most (frame word ++ rest) r → IsWholeOf word r
framed-read most word rest bytes fits small variants.End h = cc
framed-read most word rest bytes fits small variants.Torn h =
    let short : length word < 2 ^ 32 = omega (arith, fits, small) in
    let long = size-framed word rest in
    let named = length-framed word rest short in
    elim h.1 [ inl p ↦ absurd (omega (arith, p, long)) | inr p ↦ let q = p.1 in absurd (omega (arith, q, long, named)) ]
framed-read most word rest bytes fits small (variants.TooLong n) h =
    let named = length-framed word rest (omega (arith, fits, small)) in
    let same = h.1 in
    let over = h.2 in absurd (omega (arith, named, same, over, fits))
framed-read most word rest bytes fits small (variants.Damaged size) h = absurd (h.2 (same-check word rest bytes (omega (arith, fits, small))))
framed-read most word rest bytes fits small (variants.Whole read size) h =
    let short : length word < 2 ^ 32 = omega (arith, fits, small) in
    (h.3 ∙ same-word word rest short, h.1 ∙ ap (λ n. 8 + n) (length-framed word rest short))

-- a front with a whole length names the length of the frame
named-front : (word front rest : List ℕ) → frame word ≡ front ++ rest → length word < 2 ^ 32 → 4 ≤ length front → named_length front ≡ length word
named-front word front rest parts short four =
    let same : take 4 front ≡ take 4 (frame word) = sym (take-append-le 4 front rest four) ∙ ap (take 4) (sym parts) in
    ap (from_le_bytes w32) same ∙ from_le_bytes-to_le_bytes_4 (length word) short

-- a front that is cut has fewer bytes than it names
front-short : (word front rest : List ℕ) → frame word ≡ front ++ rest → 0 < length rest → length word < 2 ^ 32 → 8 + named_length front ≤ length front → ⊥
front-short word front rest parts cut short there =
    let four : 4 ≤ length front = omega (arith, there) in
    let named = named-front word front rest parts short four in
    let whole : length (frame word) ≡ length front + length rest = ap length parts ∙ length-append front rest in
    let inner = length-append word (to_le_bytes w32 (check_of word)) in
    omega (arith, named, whole, inner, there, cut)

-- each front of a frame that is cut is told as torn
pub front-torn : (most : ℕ) (word front rest : List ℕ) → frame word ≡ front ++ rest → front ≢ [] → 0 < length rest → length word ≤ most → most < 2 ^ 32 → (r : Frame) → Reads most front r →
    r ≡ variants.Torn
front-torn most word front rest parts some cut fits small variants.End h = absurd (some h)
front-torn most word front rest parts some cut fits small variants.Torn h = refl
front-torn most word front rest parts some cut fits small (variants.TooLong n) h =
    let named = named-front word front rest parts (omega (arith, fits, small)) h.0 in
    let same = h.1 in
    let over = h.2 in absurd (omega (arith, named, same, over, fits))
front-torn most word front rest parts some cut fits small (variants.Damaged size) h = absurd (front-short word front rest parts cut (omega (arith, fits, small)) h.0.1)
front-torn most word front rest parts some cut fits small (variants.Whole read size) h = absurd (front-short word front rest parts cut (omega (arith, fits, small)) h.0.1)

-- four bytes are those of the number that they make
four-bytes : (xs : List ℕ) → 4 ≤ length xs → All (λ b. b < 256) xs → to_le_bytes w32 (from_le_bytes w32 (take 4 xs)) ≡ take 4 xs
four-bytes (a ∷ b ∷ c ∷ d ∷ more) four all =
    let n = from_le_bytes w32 (a ∷ b ∷ c ∷ d ∷ []) in
    let p : a < 256 = all 0 0 (omega arith) in
    let q : b < 256 = all 1 0 (omega arith) in
    let r : c < 256 = all 2 0 (omega arith) in
    let s : d < 256 = all 3 0 (omega arith) in
    let first : n % 256 ≡ a = omega (arith, p, q, r, s) in
    let second : n / 256 % 256 ≡ b = omega (arith, p, q, r, s) in
    let third : n / 65536 % 256 ≡ c = omega (arith, p, q, r, s) in
    let fourth : n / 16777216 % 256 ≡ d = omega (arith, p, q, r, s) in
    ap (λ x. x ∷ n / 256 % 256 ∷ n / 65536 % 256 ∷ n / 16777216 % 256 ∷ []) first ∙
    (ap (λ x. a ∷ x ∷ n / 65536 % 256 ∷ n / 16777216 % 256 ∷ []) second ∙
    (ap (λ x. a ∷ b ∷ x ∷ n / 16777216 % 256 ∷ []) third ∙ ap (λ x. a ∷ b ∷ c ∷ x ∷ []) fourth))
four-bytes [] four all = absurd (omega (arith, four))
four-bytes (a ∷ []) four all = absurd (omega (arith, four))
four-bytes (a ∷ b ∷ []) four all = absurd (omega (arith, four))
four-bytes (a ∷ b ∷ c ∷ []) four all = absurd (omega (arith, four))

-- what is read as whole is a frame: bytes that nobody framed are read only where their check fits
pub read-framed : (most : ℕ) (bytes : List ℕ) (read : Bor (List ℕ)) (size : ℕ) → All (λ x. x < 256) bytes → Reads most bytes (variants.Whole read size) → bytes ≡ frame read.now ++ drop size bytes
read-framed most bytes read size all reads =
    let there = reads.0.1 in
    let n = named_length bytes in
    let more = drop 4 bytes in
    let tail = drop n more in
    let enough : 4 ≤ length bytes = omega (arith, there) in
    let left = length-drop 4 bytes in
    let within : n ≤ length more = omega (arith, there, left) in
    let after = length-drop n more in
    let four : 4 ≤ length tail = omega (arith, there, left, after) in
    let long : length (take n more) ≡ n = length-take-le n more within in
    let now : read.now ≡ take n more = reads.3 in
    let lengths : length_field read.now ≡ take 4 bytes = ap (λ x. to_le_bytes w32 (length x)) now ∙ (ap (to_le_bytes w32) long ∙ four-bytes bytes enough all) in
    let sum : check_of read.now ≡ named_check bytes = ap (λ x. crc32c (x ++ read.now)) lengths ∙ (ap (λ x. crc32c (take 4 bytes ++ x)) now ∙ sym reads.2) in
    let tail-bytes = All-drop (λ x. x < 256) n more (All-drop (λ x. x < 256) 4 bytes all) in
    let check : to_le_bytes w32 (check_of read.now) ≡ take 4 tail = ap (to_le_bytes w32) sum ∙ four-bytes tail four tail-bytes in
    let front = take 4 bytes ++ (take n more ++ take 4 tail) in
    let framed : frame read.now ≡ front =
    ap (λ x. x ++ (read.now ++ to_le_bytes w32 (check_of read.now))) lengths ∙ (ap (λ x. take 4 bytes ++ (x ++ to_le_bytes w32 (check_of read.now))) now ∙
    ap (λ x. take 4 bytes ++ (take n more ++ x)) check) in
    let parts : bytes ≡ front ++ drop 4 tail =
    sym (take-append-drop 4 bytes) ∙ (ap (λ x. take 4 bytes ++ x) (sym (take-append-drop n more) ∙ ap (λ x. take n more ++ x) (sym (take-append-drop 4 tail)) ∙
    sym (append_assoc (take n more) (take 4 tail) (drop 4 tail))) ∙ sym (append_assoc (take 4 bytes) (take n more ++ take 4 tail) (drop 4 tail))) in
    let first = length-take-le 4 bytes enough in
    let last = length-take-le 4 tail four in
    let inner = length-append (take n more) (take 4 tail) in
    let outer = length-append (take 4 bytes) (take n more ++ take 4 tail) in
    let told = reads.1 in
    let all_of : size ≡ length front = omega (arith, first, last, inner, outer, long, told) in
    let rest : drop size bytes ≡ drop 4 tail = ap (λ s. drop s bytes) all_of ∙ (ap (drop (length front)) parts ∙ drop-append_seam front (drop 4 tail)) in
    parts ∙ sym (ap (λ x. x ++ drop size bytes) framed ∙ ap (λ x. front ++ x) rest)

-- a frame leaves one state of the check, whatever its word
frame-residue : (word : List ℕ) → All (λ b. b < 256) word → after_bytes (2 ^ 32 - 1) (frame word) ≡ divided_by_bits 32 (2 ^ 32 - 1)
frame-residue word bytes =
    let checked = length_field word ++ word in
    let all : All (λ b. b < 256) checked = All-append (λ b. b < 256) (length_field word) word (field-bytes (length word)) bytes in
    ap (after_bytes (2 ^ 32 - 1)) (sym (append_assoc (length_field word) word (to_le_bytes w32 (check_of word)))) ∙ residue checked all (field-bytes (check_of word))

frame-bytes : (word : List ℕ) → All (λ b. b < 256) word → All (λ b. b < 256) (frame word)
frame-bytes word bytes =
    All-append (λ b. b < 256) (length_field word) (word ++ to_le_bytes w32 (check_of word)) (field-bytes (length word))
    (All-append (λ b. b < 256) word (to_le_bytes w32 (check_of word)) bytes (field-bytes (check_of word)))

-- A change of at most 32 bits in a row, from any bit of a frame on, makes no other frame of the same length.
pub burst-unframed : (word other : List ℕ) → All (λ b. b < 256) word → All (λ b. b < 256) other → length word ≡ length other → (i e : ℕ) → 0 < e → e < 2 ^ 32 →
    bit_xor (number (frame word)) (number (frame other)) ≡ e * 2 ^ i → ⊥
burst-unframed word other bytes others one i e some small differ =
    let same : length (frame word) ≡ length (frame other) =
    let a = length-append word (to_le_bytes w32 (check_of word)) in
    let b = length-append other (to_le_bytes w32 (check_of other)) in omega (arith, a, b, one) in
    burst-moves (frame word) (frame other) (frame-bytes word bytes) (frame-bytes other others) same i e some small differ
    (frame-residue word bytes ∙ sym (frame-residue other others))

-- So where bits of a frame changed, at most 32 in a row and none of its length, it is not read as whole.
pub burst-told : (most : ℕ) (word changed rest : List ℕ) (read : Bor (List ℕ)) (size : ℕ) → All (λ b. b < 256) word → All (λ b. b < 256) (changed ++ rest) → length changed ≡ length (frame word) →
    named_length changed ≡ length word → (i e : ℕ) → 0 < e → e < 2 ^ 32 → bit_xor (number (frame word)) (number changed) ≡ e * 2 ^ i → Reads most (changed ++ rest) (variants.Whole read size) → ⊥
burst-told most word changed rest read size bytes all one named i e some small differ reads =
    let whole = changed ++ rest in
    let other = read.now in
    let field = to_le_bytes w32 (check_of word) in
    let inner = length-append word field in
    let long : length changed ≡ 8 + length word = omega (arith, one, inner) in
    let four : 4 ≤ length changed = omega (arith, long) in
    let named-whole : named_length whole ≡ length word = ap (from_le_bytes w32) (take-append-le 4 changed rest four) ∙ named in
    let there = reads.0.1 in
    let left = length-drop 4 whole in
    let within : named_length whole ≤ length (drop 4 whole) = omega (arith, there, left) in
    let same-length : length other ≡ length word = ap length reads.3 ∙ (length-take-le (named_length whole) (drop 4 whole) within ∙ named-whole) in
    let others : All (λ b. b < 256) other = subst (All (λ b. b < 256)) (sym reads.3) (All-take (λ b. b < 256) (named_length whole) (drop 4 whole) (All-drop (λ b. b < 256) 4 whole all)) in
    let inner-other = length-append other (to_le_bytes w32 (check_of other)) in
    let long-other : length changed ≡ length (frame other) = omega (arith, long, inner-other, same-length) in
    let parts = read-framed most whole read size all reads in
    let tail = drop size whole in
    let framed : changed ≡ frame other =
    sym (take-append_seam changed rest) ∙ (ap (take (length changed)) parts ∙ (ap (λ k. take k (frame other ++ tail)) long-other ∙ take-append_seam (frame other) tail)) in
    burst-unframed word other bytes others (sym same-length) i e some small (ap (λ z. bit_xor (number (frame word)) (number z)) (sym framed) ∙ differ)
