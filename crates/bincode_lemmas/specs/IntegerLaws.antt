-- The formats of numbers are lawful.
use Rattle.std.specs.Prelude.{◌≡◌, ℕ, suc, ◌^◌, ◌<◌, ◌≤◌, ◌⊎◌, Bool, true, false, ◌==◌, if◌then◌else◌, ◌&&◌, nat_lt, nat_le, ℤ, pos, negsuc, FitsSigned, List, [], ◌∷◌, ◌++◌, length, refl}
use Rattle.std.specs.List.{All}
use Rattle.std.specs.Int.{Width, w8, w16, w32, w64, w128}
use Rattle.std.proofs.Common.{sym, ◌∙◌, ap, subst, inl, inr, arith, append-nil}
use Rattle.std.proofs.lemmas.Bool.{le-leb, lt-leb, lt-ltb, le-ltb, cases_lt, leb-true}
use Rattle.std.proofs.lemmas.List.Elements.{All-nil, All-cons, All-tail}
use Rattle.bincode_base.specs.declared.config.Endianness.{Endianness}
use Rattle.bincode_base.specs.declared.config.IntEncoding.{IntEncoding}
use Rattle.bincode_base.specs.declared.config.IntEncoding.TheVariants.{Fixed, Variable}
use Rattle.bincode_base.specs.declared.error.IntegerType.{IntegerType}
use Rattle.bincode_base.specs.Setting.{Setting}
use Rattle.bincode_spec.specs.Number.{number_of, digits_of, FitsIn, two_complement, from_two_complement}
use Rattle.bincode_spec.specs.Fault.{Fault, IsEnd, InvalidInteger}
use Rattle.bincode_spec.specs.Charge.{Step}
use Rattle.bincode_spec.specs.Format.{Format, pure, fail, fixed_bytes, step, ◌>>=◌, written_as, map_format, charge_then}
use Rattle.bincode_spec.specs.Layers.Laws.{IsLawful, IsBalanced}
use Rattle.bincode_lemmas.specs.FormatLaws.{pure-lawful, fail-lawful, fixed_bytes-lawful, turn-lawful, map-lawful, rewritten-lawful, charge_then-lawful}
use Rattle.bincode_lemmas.specs.Balance.{pure-holds, fail-holds, fixed_bytes-holds, turn-holds, rewritten-holds, map-balanced, charge_then-balanced}
use Rattle.bincode_spec.specs.Layers.Pieces.{concat_pieces}
use Rattle.bincode_spec.specs.Integers.{digits, first_of, byte, FirstByte, Itself, Before, TooWide, first_byte, number_after, unsigned_tag, signed_tag}
use Rattle.bincode_spec.specs.Integers.{shortest_word, varint, number_by, unsigned_integer, integer_by, number_for, signed_integer, unsigned_byte}
use Rattle.bincode_spec.specs.Layers.Spelling.{shortest_pieces}
use Rattle.bincode_spec.specs.Integers.{signed_byte, spelling, IsWidth, Two, Four, Eight, Sixteen, width_in_bytes}
use Rattle.bincode_lemmas.specs.DigitLaws.{length-digits_of, digits_of-are_bytes, number_of-digits_of, number_of-below}
use Rattle.bincode_lemmas.specs.SignedLaws.{unzigzag-zigzag, from_two_complement-two_complement, integer_by-number_for, number_for-integer_by, number_for-fits, integer_by-fits}

-- a byte is a lawful format
pub byte-lawful : IsLawful byte
unfolding byte
byte-lawful = map-lawful first_of (fixed_bytes 1) (fixed_bytes-lawful 1)

-- the digits of a number are a word of it
digits_word : (order : Endianness) (width n : ℕ) → n < 256 ^ width → (digits order width).Word (digits_of order width n) n []
unfolding digits written_as ◌>>=◌ fixed_bytes pure
digits_word order width n h = record {
  first = digits_of order width n;
  second = [];
  head = digits_of order width n;
  first_steps = [];
  second_steps = [];
  bytes_are = sym (append-nil (digits_of order width n));
  steps_are = refl;
  first_word = (length-digits_of order width n, refl, refl);
  second_word = (refl, sym (number_of-digits_of order width n h), refl);
}

-- digits are a lawful format
pub digits-lawful : (order : Endianness) (width : ℕ) → IsLawful (digits order width)
unfolding digits written_as
digits-lawful order width = rewritten-lawful _ (map_format (number_of order) (fixed_bytes width)) (map-lawful (number_of order) (fixed_bytes width) (fixed_bytes-lawful width))
    (λ word n h. ([], subst (λ z. (digits order width).Word z n []) (sym h.1) (digits_word order width n h.0)))

byte_word : (b : ℕ) → byte.Word (b ∷ []) b []
unfolding byte ◌>>=◌ fixed_bytes pure
byte_word b = record {
  first = b ∷ [];
  second = [];
  head = b ∷ [];
  first_steps = [];
  second_steps = [];
  bytes_are = refl;
  steps_are = refl;
  first_word = (refl, refl, refl);
  second_word = (refl, refl, refl);
}

after_lawful : (order : Endianness) (why : Fault) (first : ℕ) (said : FirstByte) → ¬ (IsEnd why) → IsLawful (number_after order why first said)
after_lawful order why first Itself h = pure-lawful first
after_lawful order why first (Before n) h = digits-lawful order n
after_lawful order why first TooWide h = fail-lawful why h

module _ (tags : ℕ → IntegerType) (name : IntegerType) (order : Endianness) (width : ℕ) where
  -- a number up to 250 is its byte
  small_word : (n : ℕ) → n ≤ 250 → (varint tags name order width).Word (n ∷ []) n []
  unfolding varint written_as ◌>>=◌ pure
  small_word n h =
      let e : nat_le n 250 ≡ true = le-leb n 250 h in
      record {
        first = n ∷ [];
        second = [];
        head = n;
        first_steps = [];
        second_steps = [];
        bytes_are = refl;
        steps_are = refl;
        first_word = byte_word n;
        second_word = rw e (refl, refl, refl);
      }

  -- a tag before digits
  tagged_word : (tag count n : ℕ) → first_byte width tag ≡ Before count → n < 256 ^ count → (varint tags name order width).Word (tag ∷ digits_of order count n) n []
  unfolding varint written_as ◌>>=◌
  tagged_word tag count n e h = record {
    first = tag ∷ [];
    second = digits_of order count n;
    head = tag;
    first_steps = [];
    second_steps = [];
    bytes_are = refl;
    steps_are = refl;
    first_word = byte_word tag;
    second_word = rw e (digits_word order count n h);
  }

-- the tags that a width has
pub tag-252 : (width : ℕ) → 4 ≤ width → first_byte width 252 ≡ Before 4
tag-252 width h = rw (le-leb 4 width h) refl

pub tag-253 : (width : ℕ) → 8 ≤ width → first_byte width 253 ≡ Before 8
tag-253 width h = rw (le-leb 8 width h) refl

pub tag-254 : (width : ℕ) → 16 ≤ width → first_byte width 254 ≡ Before 16
tag-254 width h = rw (le-leb 16 width h) refl

at_least_2 : (width : ℕ) → IsWidth width → 2 ≤ width
at_least_2 width (Two e) = omega (arith, e)
at_least_2 width (Four e) = omega (arith, e)
at_least_2 width (Eight e) = omega (arith, e)
at_least_2 width (Sixteen e) = omega (arith, e)

-- wide numbers have wide types
at_least_4 : (width n : ℕ) → IsWidth width → n < 256 ^ width → 65536 ≤ n → 4 ≤ width
at_least_4 width n (Two e) h k = let l : n < 256 ^ 2 = rw e at h in absurd (omega (arith, l, k))
at_least_4 width n (Four e) h k = omega (arith, e)
at_least_4 width n (Eight e) h k = omega (arith, e)
at_least_4 width n (Sixteen e) h k = omega (arith, e)

at_least_8 : (width n : ℕ) → IsWidth width → n < 256 ^ width → 4294967296 ≤ n → 8 ≤ width
at_least_8 width n (Two e) h k = let l : n < 256 ^ 2 = rw e at h in absurd (omega (arith, l, k))
at_least_8 width n (Four e) h k = let l : n < 256 ^ 4 = rw e at h in absurd (omega (arith, l, k))
at_least_8 width n (Eight e) h k = omega (arith, e)
at_least_8 width n (Sixteen e) h k = omega (arith, e)

at_least_16 : (width n : ℕ) → IsWidth width → n < 256 ^ width → 18446744073709551616 ≤ n → 16 ≤ width
at_least_16 width n (Two e) h k = let l : n < 256 ^ 2 = rw e at h in absurd (omega (arith, l, k))
at_least_16 width n (Four e) h k = let l : n < 256 ^ 4 = rw e at h in absurd (omega (arith, l, k))
at_least_16 width n (Eight e) h k = let l : n < 256 ^ 8 = rw e at h in absurd (omega (arith, l, k))
at_least_16 width n (Sixteen e) h k = omega (arith, e)

at_most_16 : (width n : ℕ) → IsWidth width → n < 256 ^ width → n < 256 ^ 16
at_most_16 width n (Two e) h = let l : n < 256 ^ 2 = rw e at h in omega (arith, l)
at_most_16 width n (Four e) h = let l : n < 256 ^ 4 = rw e at h in omega (arith, l)
at_most_16 width n (Eight e) h = let l : n < 256 ^ 8 = rw e at h in omega (arith, l)
at_most_16 width n (Sixteen e) h = rw e at h

-- the sizes of numbers, by the tests of the shortest spelling
data Size (n : ℕ) : Type 0 where
  Small : n ≤ 250 → Size n
  InTwo : 250 < n → n < 65536 → Size n
  InFour : 65536 ≤ n → n < 4294967296 → Size n
  InEight : 4294967296 ≤ n → n < 18446744073709551616 → Size n
  InSixteen : 18446744073709551616 ≤ n → Size n

size_by : (n : ℕ) → (250 < n) ⊎ (n ≤ 250) → (n < 65536) ⊎ (65536 ≤ n) → (n < 4294967296) ⊎ (4294967296 ≤ n) → (n < 18446744073709551616) ⊎ (18446744073709551616 ≤ n) → Size n
size_by n (inr a) b c d = Small a
size_by n (inl a) (inl b) c d = InTwo a b
size_by n (inl a) (inr b) (inl c) d = InFour b c
size_by n (inl a) (inr b) (inr c) (inl d) = InEight c d
size_by n (inl a) (inr b) (inr c) (inr d) = InSixteen d

size_of : (n : ℕ) → Size n
size_of n = size_by n (cases_lt 250 n) (cases_lt n 65536) (cases_lt n 4294967296) (cases_lt n 18446744073709551616)

-- the shortest spelling and its pieces, by the size of the number
module _ (order : Endianness) (n : ℕ) where
  pub shortest-1 : n ≤ 250 → (shortest_word order n ≡ n ∷ []) × (shortest_pieces order n ≡ (n ∷ []) ∷ [])
  shortest-1 h = let a : nat_le n 250 ≡ true = le-leb n 250 h in (rw a refl, rw a refl)

  pub shortest-3 : 250 < n → n < 65536 → (shortest_word order n ≡ 251 ∷ digits_of order 2 n) × (shortest_pieces order n ≡ (251 ∷ []) ∷ digits_of order 2 n ∷ [])
  shortest-3 h k =
      let a : nat_le n 250 ≡ false = lt-leb n 250 h in
      let b : nat_lt n 65536 ≡ true = lt-ltb n 65536 k in
      (rw (a, b) refl, rw (a, b) refl)

  pub shortest-5 : 65536 ≤ n → n < 4294967296 → (shortest_word order n ≡ 252 ∷ digits_of order 4 n) × (shortest_pieces order n ≡ (252 ∷ []) ∷ digits_of order 4 n ∷ [])
  shortest-5 h k =
      let a : nat_le n 250 ≡ false = lt-leb n 250 (omega (arith, h)) in
      let b : nat_lt n 65536 ≡ false = le-ltb n 65536 h in
      let c : nat_lt n 4294967296 ≡ true = lt-ltb n 4294967296 k in
      (rw (a, b, c) refl, rw (a, b, c) refl)

  pub shortest-9 : 4294967296 ≤ n → n < 18446744073709551616 → (shortest_word order n ≡ 253 ∷ digits_of order 8 n) × (shortest_pieces order n ≡ (253 ∷ []) ∷ digits_of order 8 n ∷ [])
  shortest-9 h k =
      let a : nat_le n 250 ≡ false = lt-leb n 250 (omega (arith, h)) in
      let b : nat_lt n 65536 ≡ false = le-ltb n 65536 (omega (arith, h)) in
      let c : nat_lt n 4294967296 ≡ false = le-ltb n 4294967296 h in
      let d : nat_lt n 18446744073709551616 ≡ true = lt-ltb n 18446744073709551616 k in
      (rw (a, b, c, d) refl, rw (a, b, c, d) refl)

  pub shortest-17 : 18446744073709551616 ≤ n → (shortest_word order n ≡ 254 ∷ digits_of order 16 n) × (shortest_pieces order n ≡ (254 ∷ []) ∷ digits_of order 16 n ∷ [])
  shortest-17 h =
      let a : nat_le n 250 ≡ false = lt-leb n 250 (omega (arith, h)) in
      let b : nat_lt n 65536 ≡ false = le-ltb n 65536 (omega (arith, h)) in
      let c : nat_lt n 4294967296 ≡ false = le-ltb n 4294967296 (omega (arith, h)) in
      let d : nat_lt n 18446744073709551616 ≡ false = le-ltb n 18446744073709551616 h in
      (rw (a, b, c, d) refl, rw (a, b, c, d) refl)

joined_two : (a b : List ℕ) → concat_pieces (a ∷ b ∷ []) ≡ a ++ b
joined_two a b = ap (λ z. a ++ z) (append-nil b)

pieces_by : (order : Endianness) (n : ℕ) → Size n → concat_pieces (shortest_pieces order n) ≡ shortest_word order n
pieces_by order n (Small h) = let e = shortest-1 order n h in ap concat_pieces e.1 ∙ sym e.0
pieces_by order n (InTwo h k) = let e = shortest-3 order n h k in ap concat_pieces e.1 ∙ joined_two (251 ∷ []) (digits_of order 2 n) ∙ sym e.0
pieces_by order n (InFour h k) = let e = shortest-5 order n h k in ap concat_pieces e.1 ∙ joined_two (252 ∷ []) (digits_of order 4 n) ∙ sym e.0
pieces_by order n (InEight h k) = let e = shortest-9 order n h k in ap concat_pieces e.1 ∙ joined_two (253 ∷ []) (digits_of order 8 n) ∙ sym e.0
pieces_by order n (InSixteen h) = let e = shortest-17 order n h in ap concat_pieces e.1 ∙ joined_two (254 ∷ []) (digits_of order 16 n) ∙ sym e.0

-- the pieces of the shortest spelling are the spelling
pub shortest-pieces : (order : Endianness) (n : ℕ) → concat_pieces (shortest_pieces order n) ≡ shortest_word order n
shortest-pieces order n = pieces_by order n (size_of n)

-- a spelling is bytes
tagged_are_bytes : (order : Endianness) (tag width n : ℕ) → tag < 256 → All (λ b. b < 256) (tag ∷ digits_of order width n)
tagged_are_bytes order tag width n h = All-cons (λ b. b < 256) tag (digits_of order width n) h (digits_of-are_bytes order width n)

shortest_are_bytes : (order : Endianness) (n : ℕ) → Size n → All (λ b. b < 256) (shortest_word order n)
shortest_are_bytes order n (Small h) = rw (shortest-1 order n h).0 (All-cons (λ b. b < 256) n [] (omega (arith, h)) (All-nil (λ b. b < 256)))
shortest_are_bytes order n (InTwo h k) = rw (shortest-3 order n h k).0 (tagged_are_bytes order 251 2 n (omega arith))
shortest_are_bytes order n (InFour h k) = rw (shortest-5 order n h k).0 (tagged_are_bytes order 252 4 n (omega arith))
shortest_are_bytes order n (InEight h k) = rw (shortest-9 order n h k).0 (tagged_are_bytes order 253 8 n (omega arith))
shortest_are_bytes order n (InSixteen h) = rw (shortest-17 order n h).0 (tagged_are_bytes order 254 16 n (omega arith))

pub spelling-are_bytes : (encoding : IntEncoding) (order : Endianness) (width n : ℕ) → All (λ b. b < 256) (spelling encoding order width n)
spelling-are_bytes Fixed order width n = digits_of-are_bytes order width n
spelling-are_bytes Variable order width n = shortest_are_bytes order n (size_of n)

module _ (tags : ℕ → IntegerType) (name : IntegerType) (order : Endianness) (width n : ℕ) (w : IsWidth width) (h : n < 256 ^ width) where
  shortest_by : Size n → (varint tags name order width).Word (shortest_word order n) n []
  shortest_by (Small a) = rw (shortest-1 order n a).0 (small_word tags name order width n a)
  shortest_by (InTwo a b) = rw (shortest-3 order n a b).0 (tagged_word tags name order width 251 2 n refl (omega (arith, b)))
  shortest_by (InFour a b) = rw (shortest-5 order n a b).0 (tagged_word tags name order width 252 4 n (tag-252 width (at_least_4 width n w h a)) (omega (arith, b)))
  shortest_by (InEight a b) = rw (shortest-9 order n a b).0 (tagged_word tags name order width 253 8 n (tag-253 width (at_least_8 width n w h a)) (omega (arith, b)))
  shortest_by (InSixteen a) = rw (shortest-17 order n a).0 (tagged_word tags name order width 254 16 n (tag-254 width (at_least_16 width n w h a)) (at_most_16 width n w h))

  -- the shortest spelling of a number is a word of it
  pub shortest-word : (varint tags name order width).Word (shortest_word order n) n []
  shortest-word = shortest_by (size_of n)

-- tags and digits are a lawful format
pub varint-lawful : (tags : ℕ → IntegerType) (name : IntegerType) (order : Endianness) (width : ℕ) → IsWidth width → IsLawful (varint tags name order width)
unfolding varint written_as
varint-lawful tags name order width w =
    rewritten-lawful _ (byte >>= λ first. number_after order (InvalidInteger name (tags first)) first (first_byte width first))
    (turn-lawful byte (λ first. number_after order (InvalidInteger name (tags first)) first (first_byte width first)) byte-lawful
    (λ first. after_lawful order (InvalidInteger name (tags first)) first (first_byte width first) (λ k. k)))
    (λ word n h. ([], subst (λ z. (varint tags name order width).Word z n []) (sym h.1) (shortest-word tags name order width n w h.0)))

-- a number in either encoding is a lawful format
pub number_by-lawful : (tags : ℕ → IntegerType) (name : IntegerType) (order : Endianness) (width : ℕ) (encoding : IntEncoding) → IsWidth width → IsLawful (number_by tags name order width encoding)
number_by-lawful tags name order width Fixed w = digits-lawful order width
number_by-lawful tags name order width Variable w = varint-lawful tags name order width w

-- an unsigned number is a lawful format
pub unsigned-lawful : (name : IntegerType) (width : ℕ) (setting : Setting) → IsWidth width → IsLawful (unsigned_integer name width setting)
unfolding unsigned_integer
unsigned-lawful name width setting w = let F = number_by unsigned_tag name setting.order width setting.encoding in charge_then-lawful width F
    (number_by-lawful unsigned_tag name setting.order width setting.encoding w)

-- a signed number is a lawful format
pub signed-lawful : (name : IntegerType) (width : ℕ) (setting : Setting) → IsWidth width → IsLawful (signed_integer name width setting)
unfolding signed_integer
signed-lawful name width setting w =
    let F = number_by signed_tag name setting.order width setting.encoding in
    charge_then-lawful width (map_format (integer_by width setting.encoding) F) (map-lawful (integer_by width setting.encoding) F (number_by-lawful signed_tag name setting.order width setting.encoding w))

-- an unsigned number of one byte is a lawful format
pub unsigned_byte-lawful : IsLawful unsigned_byte
unfolding unsigned_byte
unsigned_byte-lawful = charge_then-lawful 1 byte byte-lawful

-- a signed number of one byte is a lawful format
pub signed_byte-lawful : IsLawful signed_byte
unfolding signed_byte
signed_byte-lawful = charge_then-lawful 1 (map_format (from_two_complement 1) byte) (map-lawful (from_two_complement 1) byte byte-lawful)

-- what is written

number_written : (tags : ℕ → IntegerType) (name : IntegerType) (order : Endianness) (width n : ℕ) (encoding : IntEncoding) → n < 256 ^ width →
    (number_by tags name order width encoding).Written (spelling encoding order width n) n
unfolding digits varint written_as
number_written tags name order width n Fixed h = (h, refl)
number_written tags name order width n Variable h = (h, refl)

written_number : (tags : ℕ → IntegerType) (name : IntegerType) (order : Endianness) (width n : ℕ) (encoding : IntEncoding) (bytes : List ℕ) →
    (number_by tags name order width encoding).Written bytes n → (n < 256 ^ width) × (bytes ≡ spelling encoding order width n)
unfolding digits varint written_as
written_number tags name order width n Fixed bytes h = h
written_number tags name order width n Variable bytes h = h

charged_written : {A : Type 0} (n : ℕ) (F : Format A) (bytes : List ℕ) (m : A) → F.Written bytes m → (charge_then n F).Written bytes m
unfolding ◌>>=◌ step
charged_written n F bytes m h = record { first = []; second = bytes; head = tt; bytes_are = refl; first_written = refl; second_written = h }

written_charged : {A : Type 0} (n : ℕ) (F : Format A) (bytes : List ℕ) (m : A) → (charge_then n F).Written bytes m → F.Written bytes m
unfolding ◌>>=◌ step
written_charged n F bytes m h = subst (λ z. F.Written z m) (sym (h.bytes_are ∙ ap (λ z. z ++ h.second) h.first_written)) h.second_written

map_written : {A B : Type 0} (f : A → B) (F : Format A) (bytes : List ℕ) (a : A) → F.Written bytes a → (map_format f F).Written bytes (f a)
unfolding ◌>>=◌ pure
map_written f F bytes a h = record { first = bytes; second = []; head = a; bytes_are = sym (append-nil bytes); first_written = h; second_written = (refl, refl) }

written_map : {A B : Type 0} (f : A → B) (F : Format A) (bytes : List ℕ) (b : B) → (map_format f F).Written bytes b → (a : A) × F.Written bytes a × (b ≡ f a)
unfolding ◌>>=◌ pure
written_map f F bytes b h = (h.head, subst (λ z. F.Written z h.head) (sym (h.bytes_are ∙ ap (λ z. h.first ++ z) h.second_written.0 ∙ append-nil h.first)) h.first_written, h.second_written.1)

-- for an unsigned number its spelling is written
pub written-unsigned : (name : IntegerType) (width n : ℕ) (setting : Setting) → n < 256 ^ width → (unsigned_integer name width setting).Written (spelling setting.encoding setting.order width n) n
unfolding unsigned_integer
written-unsigned name width n setting h =
    charged_written width (number_by unsigned_tag name setting.order width setting.encoding) (spelling setting.encoding setting.order width n) n
    (number_written unsigned_tag name setting.order width n setting.encoding h)

-- and nothing else
pub unsigned-written : (name : IntegerType) (width n : ℕ) (setting : Setting) (bytes : List ℕ) → (unsigned_integer name width setting).Written bytes n →
    (n < 256 ^ width) × (bytes ≡ spelling setting.encoding setting.order width n)
unfolding unsigned_integer
unsigned-written name width n setting bytes h =
    written_number unsigned_tag name setting.order width n setting.encoding bytes
    (written_charged width (number_by unsigned_tag name setting.order width setting.encoding) bytes n h)

byte_written : (b : ℕ) → byte.Written (b ∷ []) b
unfolding byte ◌>>=◌ fixed_bytes pure
byte_written b = record { first = b ∷ []; second = []; head = b ∷ []; bytes_are = refl; first_written = (refl, refl); second_written = (refl, refl) }

one_byte : (bytes : List ℕ) → length bytes ≡ 1 → bytes ≡ first_of bytes ∷ []
one_byte [] e = absurd (omega (arith, e))
one_byte (b ∷ []) e = refl
one_byte (b ∷ c ∷ bytes) e = absurd (omega (arith, e))

written_byte : (bytes : List ℕ) (b : ℕ) → byte.Written bytes b → bytes ≡ b ∷ []
unfolding byte fixed_bytes
written_byte bytes b h =
    let p = written_map first_of (fixed_bytes 1) bytes b h in
    let q : bytes ≡ first_of bytes ∷ [] = one_byte bytes p.1.0 in
    let r : b ≡ first_of bytes = p.2 ∙ ap first_of p.1.1 in
    q ∙ ap (λ z. z ∷ []) (sym r)

-- for an unsigned number of one byte that byte is written
pub written-unsigned_byte : (b : ℕ) → unsigned_byte.Written (b ∷ []) b
unfolding unsigned_byte
written-unsigned_byte b = charged_written 1 byte (b ∷ []) b (byte_written b)

-- and nothing else
pub unsigned_byte-written : (bytes : List ℕ) (b : ℕ) → unsigned_byte.Written bytes b → bytes ≡ b ∷ []
unfolding unsigned_byte
unsigned_byte-written bytes b h = written_byte bytes b (written_charged 1 byte bytes b h)

-- the balance

-- a byte is balanced
pub byte-balanced : IsBalanced byte
unfolding byte
byte-balanced = map-balanced first_of (fixed_bytes 1) (fixed_bytes-holds 0 1)

-- digits are balanced
pub digits-balanced : (order : Endianness) (width : ℕ) → IsBalanced (digits order width)
unfolding digits
digits-balanced order width = rewritten-holds 0 0 _ (map_format (number_of order) (fixed_bytes width)) (map-balanced (number_of order) (fixed_bytes width) (fixed_bytes-holds 0 width))

after_balanced : (order : Endianness) (why : Fault) (first : ℕ) (said : FirstByte) → IsBalanced (number_after order why first said)
after_balanced order why first Itself = pure-holds 0 first
after_balanced order why first (Before n) = digits-balanced order n
after_balanced order why first TooWide = fail-holds 0 0 why

-- tags and digits are balanced
pub varint-balanced : (tags : ℕ → IntegerType) (name : IntegerType) (order : Endianness) (width : ℕ) → IsBalanced (varint tags name order width)
unfolding varint
varint-balanced tags name order width =
    let G : ℕ → Format ℕ = λ first. number_after order (InvalidInteger name (tags first)) first (first_byte width first) in
    rewritten-holds 0 0 _ (byte >>= G) (turn-holds 0 0 0 byte G byte-balanced (λ first. after_balanced order (InvalidInteger name (tags first)) first (first_byte width first)))

-- a number in either encoding is balanced
pub number_by-balanced : (tags : ℕ → IntegerType) (name : IntegerType) (order : Endianness) (width : ℕ) (encoding : IntEncoding) → IsBalanced (number_by tags name order width encoding)
number_by-balanced tags name order width Fixed = digits-balanced order width
number_by-balanced tags name order width Variable = varint-balanced tags name order width

-- an unsigned number is balanced
pub unsigned-balanced : (name : IntegerType) (width : ℕ) (setting : Setting) → IsBalanced (unsigned_integer name width setting)
unfolding unsigned_integer
unsigned-balanced name width setting =
    charge_then-balanced width (number_by unsigned_tag name setting.order width setting.encoding) (number_by-balanced unsigned_tag name setting.order width setting.encoding)

-- a signed number is balanced
pub signed-balanced : (name : IntegerType) (width : ℕ) (setting : Setting) → IsBalanced (signed_integer name width setting)
unfolding signed_integer
signed-balanced name width setting =
    let F = number_by signed_tag name setting.order width setting.encoding in
    charge_then-balanced width (map_format (integer_by width setting.encoding) F)
    (map-balanced (integer_by width setting.encoding) F (number_by-balanced signed_tag name setting.order width setting.encoding))

-- an unsigned number of one byte is balanced
pub unsigned_byte-balanced : IsBalanced unsigned_byte
unfolding unsigned_byte
unsigned_byte-balanced = charge_then-balanced 1 byte byte-balanced

-- a signed number of one byte is balanced
pub signed_byte-balanced : IsBalanced signed_byte
unfolding signed_byte
signed_byte-balanced = charge_then-balanced 1 (map_format (from_two_complement 1) byte) (map-balanced (from_two_complement 1) byte byte-balanced)

-- a width is not 0
pub width-positive : (width : ℕ) → IsWidth width → 0 < width
width-positive width (Two e) = omega (arith, e)
width-positive width (Four e) = omega (arith, e)
width-positive width (Eight e) = omega (arith, e)
width-positive width (Sixteen e) = omega (arith, e)

-- for a signed number the spelling of its number is written
pub written-signed : (name : IntegerType) (width : ℕ) (z : ℤ) (setting : Setting) → IsWidth width → FitsIn width z →
    (signed_integer name width setting).Written (spelling setting.encoding setting.order width (number_for width setting.encoding z)) z
unfolding signed_integer
written-signed name width z setting w h =
    let F = number_by signed_tag name setting.order width setting.encoding in
    let n = number_for width setting.encoding z in
    let bytes = spelling setting.encoding setting.order width n in
    let l : 0 < width = width-positive width w in
    let p : F.Written bytes n = number_written signed_tag name setting.order width n setting.encoding (number_for-fits width setting.encoding z l h) in
    let e : integer_by width setting.encoding n ≡ z = integer_by-number_for width setting.encoding z l h in
    charged_written width (map_format (integer_by width setting.encoding) F) bytes z
    (subst (λ y. (map_format (integer_by width setting.encoding) F).Written bytes y) e (map_written (integer_by width setting.encoding) F bytes n p))

-- and nothing else
pub signed-written : (name : IntegerType) (width : ℕ) (z : ℤ) (setting : Setting) (bytes : List ℕ) → (signed_integer name width setting).Written bytes z →
    FitsIn width z × (bytes ≡ spelling setting.encoding setting.order width (number_for width setting.encoding z))
unfolding signed_integer
signed-written name width z setting bytes h =
    let F = number_by signed_tag name setting.order width setting.encoding in
    let p = written_map (integer_by width setting.encoding) F bytes z (written_charged width (map_format (integer_by width setting.encoding) F) bytes z h) in
    let q = written_number signed_tag name setting.order width p.0 setting.encoding bytes p.1 in
    let e : number_for width setting.encoding z ≡ p.0 = ap (number_for width setting.encoding) p.2 ∙ number_for-integer_by width setting.encoding p.0 q.0 in
    (subst (FitsIn width) (sym p.2) (integer_by-fits width setting.encoding p.0 q.0), q.1 ∙ ap (spelling setting.encoding setting.order width) (sym e))

-- for a signed number of one byte its two's complement is written
pub written-signed_byte : (z : ℤ) → FitsIn 1 z → signed_byte.Written (two_complement 1 z ∷ []) z
unfolding signed_byte
written-signed_byte z h =
    let e : from_two_complement 1 (two_complement 1 z) ≡ z = from_two_complement-two_complement 1 z (omega arith) h in
    charged_written 1 (map_format (from_two_complement 1) byte) (two_complement 1 z ∷ []) z
    (subst (λ y. (map_format (from_two_complement 1) byte).Written (two_complement 1 z ∷ []) y) e
    (map_written (from_two_complement 1) byte (two_complement 1 z ∷ []) (two_complement 1 z) (byte_written (two_complement 1 z))))

-- from words to their parts

-- what a first byte stands for
abbrev Tells : ℕ → FirstByte → Type 0
Tells first Itself = first ≤ 250
Tells first (Before n) = IsWidth n
Tells first TooWide = Unit {0}

tells_by : (first : ℕ) (a b c d e : Bool) → (a ≡ true → first ≤ 250) →
    Tells first (if a then Itself else if b then Before 2 else if c then Before 4 else if d then Before 8 else if e then Before 16 else TooWide)
tells_by first true b c d e h = h refl
tells_by first false true c d e h = Two refl
tells_by first false false true d e h = Four refl
tells_by first false false false true e h = Eight refl
tells_by first false false false false true h = Sixteen refl
tells_by first false false false false false h = tt

first_byte_tells : (width first : ℕ) → Tells first (first_byte width first)
first_byte_tells width first =
    tells_by first (nat_le first 250) (first == 251) ((first == 252) && nat_le 4 width) ((first == 253) && nat_le 8 width) ((first == 254) && nat_le 16 width) (leb-true first 250)

word_map : {A B : Type 0} (f : A → B) (F : Format A) (bytes : List ℕ) (b : B) (s : List Step) → (map_format f F).Word bytes b s → (a : A) × (t : List Step) × F.Word bytes a t × (b ≡ f a)
unfolding ◌>>=◌ pure
word_map f F bytes b s h =
    let e : bytes ≡ h.first = h.bytes_are ∙ ap (λ z. h.first ++ z) h.second_word.0 ∙ append-nil h.first in
    (h.head, h.first_steps, subst (λ z. F.Word z h.head h.first_steps) (sym e) h.first_word, h.second_word.1)

-- a word after a charge is a word
pub word-charged : {A : Type 0} (n : ℕ) (F : Format A) (bytes : List ℕ) (m : A) (s : List Step) → (charge_then n F).Word bytes m s → (t : List Step) × F.Word bytes m t
unfolding ◌>>=◌ step
word-charged n F bytes m s h =
    let e : bytes ≡ h.second = h.bytes_are ∙ ap (λ z. z ++ h.second) h.first_word.0 in
    (h.second_steps, subst (λ z. F.Word z m h.second_steps) (sym e) h.second_word)

word_byte : (bytes : List ℕ) (b : ℕ) (s : List Step) → byte.Word bytes b s → bytes ≡ b ∷ []
unfolding byte fixed_bytes
word_byte bytes b s h =
    let p = word_map first_of (fixed_bytes 1) bytes b s h in
    let q : bytes ≡ first_of bytes ∷ [] = one_byte bytes p.2.0 in
    let r : b ≡ first_of bytes = p.3 ∙ ap first_of p.2.1 in
    q ∙ ap (λ z. z ∷ []) (sym r)

word_digits : (order : Endianness) (width : ℕ) (bytes : List ℕ) (n : ℕ) (s : List Step) → (digits order width).Word bytes n s → (length bytes ≡ width) × (n ≡ number_of order bytes)
unfolding digits written_as fixed_bytes
word_digits order width bytes n s h =
    let p = word_map (number_of order) (fixed_bytes width) bytes n s h in
    (p.2.0, p.3 ∙ ap (number_of order) p.2.1)

-- a word is a first byte and what it asks for
record FirstThen (tags : ℕ → IntegerType) (name : IntegerType) (order : Endianness) (width : ℕ) (bytes : List ℕ) (n : ℕ) : Type 0 where
  pub head : ℕ
  pub tail : List ℕ
  pub steps : List Step
  pub bytes_are : bytes ≡ head ∷ tail
  pub tail_word : (number_after order (InvalidInteger name (tags head)) head (first_byte width head)).Word tail n steps

word_varint : (tags : ℕ → IntegerType) (name : IntegerType) (order : Endianness) (width : ℕ) (bytes : List ℕ) (n : ℕ) (s : List Step) →
    (varint tags name order width).Word bytes n s → FirstThen tags name order width bytes n
unfolding varint written_as ◌>>=◌
word_varint tags name order width bytes n s h =
    record {
      head = h.head;
      tail = h.second;
      steps = h.second_steps;
      bytes_are = h.bytes_are ∙ ap (λ z. z ++ h.second) (word_byte h.first h.head h.first_steps h.first_word);
      tail_word = h.second_word;
    }

-- the shortest spelling is no longer than any

length_by : (order : Endianness) (width n : ℕ) → IsWidth width → n < 256 ^ width → Size n → length (shortest_word order n) ≤ suc width
length_by order width n w h (Small a) = rw (shortest-1 order n a).0 (omega arith)
length_by order width n w h (InTwo a b) = rw (shortest-3 order n a b).0 (omega (arith, length-digits_of order 2 n, at_least_2 width w))
length_by order width n w h (InFour a b) = rw (shortest-5 order n a b).0 (omega (arith, length-digits_of order 4 n, at_least_4 width n w h a))
length_by order width n w h (InEight a b) = rw (shortest-9 order n a b).0 (omega (arith, length-digits_of order 8 n, at_least_8 width n w h a))
length_by order width n w h (InSixteen a) = rw (shortest-17 order n a).0 (omega (arith, length-digits_of order 16 n, at_least_16 width n w h a))

-- the shortest spelling is at most a byte longer than the number
pub length-shortest : (order : Endianness) (width n : ℕ) → IsWidth width → n < 256 ^ width → length (shortest_word order n) ≤ suc width
length-shortest order width n w h = length_by order width n w h (size_of n)

shortest_after : (order : Endianness) (why : Fault) (first : ℕ) (said : FirstByte) (tail : List ℕ) (n : ℕ) (s : List Step) → Tells first said →
    All (λ b. b < 256) tail → (number_after order why first said).Word tail n s → length (shortest_word order n) ≤ suc (length tail)
unfolding pure fail
shortest_after order why first Itself tail n s t h u =
    let l : n ≤ 250 = rw u.1 t in
    rw (shortest-1 order n l).0 (omega arith)
shortest_after order why first (Before k) tail n s t h u =
    let p = word_digits order k tail n s u in
    let l : n < 256 ^ k = rw p.1 (number_of-below order k tail p.0 h) in
    let q : length (shortest_word order n) ≤ suc k = length-shortest order k n t l in
    omega (arith, q, p.0)
shortest_after order why first TooWide tail n s t h u = absurd u

-- no word of tags and digits is shorter than the shortest spelling of its meaning
pub shortest-least : (tags : ℕ → IntegerType) (name : IntegerType) (order : Endianness) (width : ℕ) (bytes : List ℕ) (n : ℕ) (s : List Step) →
    All (λ b. b < 256) bytes → (varint tags name order width).Word bytes n s → length (shortest_word order n) ≤ length bytes
shortest-least tags name order width bytes n s h u =
    let p = word_varint tags name order width bytes n s u in
    let g : All (λ b. b < 256) p.tail = All-tail (λ b. b < 256) p.head p.tail (subst (All (λ b. b < 256)) p.bytes_are h) in
    rw p.bytes_are (shortest_after order (InvalidInteger name (tags p.head)) p.head (first_byte width p.head) p.tail n p.steps (first_byte_tells width p.head) g p.tail_word)

-- no word of a number is shorter than its spelling
pub spelling-least :
    (tags : ℕ → IntegerType) (name : IntegerType) (order : Endianness) (width : ℕ) (encoding : IntEncoding) (bytes : List ℕ) (n : ℕ) (s : List Step) →
    All (λ b. b < 256) bytes → (number_by tags name order width encoding).Word bytes n s → length (spelling encoding order width n) ≤ length bytes
spelling-least tags name order width Fixed bytes n s h u = let p = word_digits order width bytes n s u in omega (arith, length-digits_of order width n, p.0)
spelling-least tags name order width Variable bytes n s h u = shortest-least tags name order width bytes n s h u

-- no word of an unsigned number is shorter than the one that is written for the same meaning
pub unsigned-least : (name : IntegerType) (width n : ℕ) (setting : Setting) (written bytes : List ℕ) (s : List Step) → All (λ b. b < 256) bytes →
    (unsigned_integer name width setting).Written written n → (unsigned_integer name width setting).Word bytes n s → length written ≤ length bytes
unfolding unsigned_integer
unsigned-least name width n setting written bytes s h w u =
    let p = word-charged width (number_by unsigned_tag name setting.order width setting.encoding) bytes n s u in
    rw (unsigned-written name width n setting written w).1 (spelling-least unsigned_tag name setting.order width setting.encoding bytes n p.0 h p.1)

-- the number of a word is that of its meaning, or its spelling is as long
same_length : (width : ℕ) (encoding : IntEncoding) (order : Endianness) (n : ℕ) →
    length (spelling encoding order width (number_for width encoding (integer_by width encoding n))) ≡ length (spelling encoding order width n)
same_length width Fixed order n = length-digits_of order width (two_complement width (from_two_complement width n)) ∙ sym (length-digits_of order width n)
same_length width Variable order n = ap (λ m. length (shortest_word order m)) (unzigzag-zigzag n)

-- no word of a signed number is shorter than the one that is written for the same meaning
pub signed-least : (name : IntegerType) (width : ℕ) (z : ℤ) (setting : Setting) (written bytes : List ℕ) (s : List Step) → All (λ b. b < 256) bytes →
    (signed_integer name width setting).Written written z → (signed_integer name width setting).Word bytes z s → length written ≤ length bytes
unfolding signed_integer
signed-least name width z setting written bytes s h w u =
    let F = number_by signed_tag name setting.order width setting.encoding in
    let p = word-charged width (map_format (integer_by width setting.encoding) F) bytes z s u in
    let q = word_map (integer_by width setting.encoding) F bytes z p.0 p.1 in
    let e : length written ≡ length (spelling setting.encoding setting.order width (number_for width setting.encoding z)) = ap length (signed-written name width z setting written w).1 in
    let f : length (spelling setting.encoding setting.order width (number_for width setting.encoding z)) ≡ length (spelling setting.encoding setting.order width q.0) =
    ap (λ y. length (spelling setting.encoding setting.order width (number_for width setting.encoding y))) q.3 ∙ same_length width setting.encoding setting.order q.0 in
    let l : length (spelling setting.encoding setting.order width q.0) ≤ length bytes = spelling-least signed_tag name setting.order width setting.encoding bytes q.0 q.1 h q.2 in
    rw (e, f) l

-- what fits a signed type of Rust fits its bytes
pub FitsIn-from_signed : (w : Width) (z : ℤ) → FitsSigned w z → FitsIn (width_in_bytes w) z
FitsIn-from_signed w8 (pos n) h = let k = h.sfits in omega (arith, k)
FitsIn-from_signed w8 (negsuc n) h = let k = h.sfits in omega (arith, k)
FitsIn-from_signed w16 (pos n) h = let k = h.sfits in omega (arith, k)
FitsIn-from_signed w16 (negsuc n) h = let k = h.sfits in omega (arith, k)
FitsIn-from_signed w32 (pos n) h = let k = h.sfits in omega (arith, k)
FitsIn-from_signed w32 (negsuc n) h = let k = h.sfits in omega (arith, k)
FitsIn-from_signed w64 (pos n) h = let k = h.sfits in omega (arith, k)
FitsIn-from_signed w64 (negsuc n) h = let k = h.sfits in omega (arith, k)
FitsIn-from_signed w128 (pos n) h = let k = h.sfits in omega (arith, k)
FitsIn-from_signed w128 (negsuc n) h = let k = h.sfits in omega (arith, k)
