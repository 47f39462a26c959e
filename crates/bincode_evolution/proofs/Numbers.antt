-- A wider integer reads all words of a narrower one where its length varies, and only one of the same width where it is
-- fixed.
use Rattle.std.specs.Prelude.{◌≡◌, ℕ, ◌≤◌, ◌⊎◌, Bool, true, false, ◌==◌, ◌&&◌, if◌then◌else◌, nat_le, pos, Some, refl}
use Rattle.std.proofs.Common.{◌∙◌, ap, sym, subst, inl, inr, arith}
use Rattle.std.proofs.lemmas.Bool.{eqb-true, ne_eqb, leb-true, le-leb, lt-leb, cases_lt}
use Rattle.bincode_base.specs.declared.config.Endianness.{Endianness}
use Rattle.bincode_base.specs.declared.config.IntEncoding.{IntEncoding}
use Rattle.bincode_base.specs.declared.config.IntEncoding.TheVariants.{Fixed, Variable}
use Rattle.bincode_base.specs.declared.error.IntegerType.{IntegerType}
use Rattle.bincode_base.specs.declared.error.IntegerType.TheVariants as integers
use Rattle.bincode_base.specs.Setting.{Setting}
use Rattle.bincode_spec.specs.Charge.{Charge}
use Rattle.bincode_spec.specs.Fault.{Fault, InvalidInteger}
use Rattle.bincode_spec.specs.Format.{pure}
use Rattle.bincode_spec.specs.Integers.{digits, byte, FirstByte, Itself, Before, TooWide, first_byte, number_after, varint, number_by, unsigned_integer, integer_by, signed_integer, unsigned_tag, signed_tag}
use Rattle.bincode_spec.specs.Meaning.{Number}
use Rattle.bincode_spec.specs.Words.{natural_number, integer_number}
use Rattle.bincode_shape.specs.declared.shape.Shape as shapes
use Rattle.bincode_shape.specs.declared.shape.Shape.{Shape}
use Rattle.bincode_shape.specs.Shapes.{format_of}
use Rattle.bincode_evolution.specs.Reading.{ReadsAll}
use Rattle.bincode_evolution.specs.Rules.{keeps, unsigned_width, signed_width}
use Rattle.bincode_evolution.proofs.Taking.{reads_itself, reads_written, reads_in_turn, reads_map, reads_stepped, reads_none, none_failed}

-- by the tests of a first byte above 250
abbrev tagged : Bool → Bool → Bool → Bool → FirstByte
tagged two four eight sixteen = if two then Before 2 else if four then Before 4 else if eight then Before 8 else if sixteen then Before 16 else TooWide

-- what narrower widths allow, wider ones allow too
tagged-wider : (two four eight sixteen w4 w8 w16 v4 v8 v16 : Bool) → (w4 ≡ true → v4 ≡ true) → (w8 ≡ true → v8 ≡ true) → (w16 ≡ true → v16 ≡ true) →
    (four ≡ true → eight ≡ false) → (four ≡ true → sixteen ≡ false) → (eight ≡ true → sixteen ≡ false) →
    (tagged two (four && w4) (eight && w8) (sixteen && w16) ≡ TooWide) ⊎ (tagged two (four && v4) (eight && v8) (sixteen && v16) ≡ tagged two (four && w4) (eight && w8) (sixteen && w16))
tagged-wider true four eight sixteen w4 w8 w16 v4 v8 v16 h i j k l m = inr refl
tagged-wider false true eight sixteen true w8 w16 v4 v8 v16 h i j k l m = let e : v4 ≡ true = h refl in inr (rw e refl)
tagged-wider false true eight sixteen false w8 w16 v4 v8 v16 h i j k l m =
    let e : eight ≡ false = k refl in let f : sixteen ≡ false = l refl in inl (rw (e, f) refl)
tagged-wider false false true sixteen w4 true w16 v4 v8 v16 h i j k l m = let e : v8 ≡ true = i refl in inr (rw e refl)
tagged-wider false false true sixteen w4 false w16 v4 v8 v16 h i j k l m = let e : sixteen ≡ false = m refl in inl (rw e refl)
tagged-wider false false false true w4 w8 true v4 v8 v16 h i j k l m = let e : v16 ≡ true = j refl in inr (rw e refl)
tagged-wider false false false true w4 w8 false v4 v8 v16 h i j k l m = inl refl
tagged-wider false false false false w4 w8 w16 v4 v8 v16 h i j k l m = inl refl

wide : (n width wider : ℕ) → width ≤ wider → nat_le n width ≡ true → nat_le n wider ≡ true
wide n width wider h e = let k = leb-true n width e in le-leb n wider (omega (arith, h, k))

only : (first n m : ℕ) → (n ≡ m → ⊥) → (first == n) ≡ true → (first == m) ≡ false
only first n m d e = let k = eqb-true first n e in ne_eqb first m (λ z. d (sym k ∙ z))

-- a first byte that a narrower integer accepts means the same to a wider one
first_byte-wider : (width wider first : ℕ) → width ≤ wider → (first_byte width first ≡ TooWide) ⊎ (first_byte wider first ≡ first_byte width first)
first_byte-wider width wider first h =
    elim (cases_lt first 251) [
      | inl low ↦ let e : nat_le first 250 ≡ true = le-leb first 250 (omega (arith, low)) in inr (rw e refl)
      | inr high ↦
          let e : nat_le first 250 ≡ false = lt-leb first 250 (omega (arith, high)) in
          rw e
          (tagged-wider (first == 251) (first == 252) (first == 253) (first == 254) (nat_le 4 width) (nat_le 8 width) (nat_le 16 width) (nat_le 4 wider) (nat_le 8 wider) (nat_le 16 wider)
          (wide 4 width wider h) (wide 8 width wider h) (wide 16 width wider h)
          (only first 252 253 (λ z. omega (arith, z))) (only first 252 254 (λ z. omega (arith, z))) (only first 253 254 (λ z. omega (arith, z))))
    ]

after_same : (order : Endianness) (old new : Fault) (first : ℕ) (said : FirstByte) → ReadsAll (number_after order new first said) (number_after order old first said)
after_same order old new first Itself = reads_itself (pure first)
after_same order old new first (Before n) = reads_itself (digits order n)
after_same order old new first TooWide = reads_none _ (none_failed old)

after_wider : (order : Endianness) (old new : Fault) (first : ℕ) (said wider : FirstByte) → (said ≡ TooWide) ⊎ (wider ≡ said) →
    ReadsAll (number_after order new first wider) (number_after order old first said)
after_wider order old new first said wider (inl e) = subst (λ z. ReadsAll (number_after order new first wider) (number_after order old first z)) (sym e) (reads_none _ (none_failed old))
after_wider order old new first said wider (inr e) = subst (λ z. ReadsAll (number_after order new first z) (number_after order old first said)) (sym e) (after_same order old new first said)

varint_reads : (tags : ℕ → IntegerType) (old new : IntegerType) (order : Endianness) (width wider : ℕ) → width ≤ wider → ReadsAll (varint tags new order wider) (varint tags old order width)
unfolding varint
varint_reads tags old new order width wider h =
    reads_written _ _ (reads_in_turn (reads_itself byte) (λ first. after_wider order (InvalidInteger old (tags first)) (InvalidInteger new (tags first)) first (first_byte width first) (first_byte wider first) (first_byte-wider width wider first h)))

number_reads : (tags : ℕ → IntegerType) (old new : IntegerType) (order : Endianness) (width wider : ℕ) (encoding : IntEncoding) → keeps encoding width (Some wider) ≡ true →
    ReadsAll (number_by tags new order wider encoding) (number_by tags old order width encoding)
number_reads tags old new order width wider Fixed h = subst (λ z. ReadsAll (digits order z) (digits order width)) (eqb-true width wider h) (reads_itself (digits order width))
number_reads tags old new order width wider Variable h = varint_reads tags old new order width wider (leb-true width wider h)

unsigned_reads : (old new : IntegerType) (width wider : ℕ) (s : Setting) → keeps s.encoding width (Some wider) ≡ true → ReadsAll (unsigned_integer new wider s) (unsigned_integer old width s)
unfolding unsigned_integer
unsigned_reads old new width wider s h = reads_stepped (Charge width) (Charge wider) (number_reads unsigned_tag old new s.order width wider s.encoding h)

integer_alike : (width wider : ℕ) (encoding : IntEncoding) (n : ℕ) → keeps encoding width (Some wider) ≡ true → integer_by width encoding n ≡ integer_by wider encoding n
integer_alike width wider Fixed n h = ap (λ z. integer_by z Fixed n) (eqb-true width wider h)
integer_alike width wider Variable n h = refl

signed_reads : (old new : IntegerType) (width wider : ℕ) (s : Setting) → keeps s.encoding width (Some wider) ≡ true → ReadsAll (signed_integer new wider s) (signed_integer old width s)
unfolding signed_integer
signed_reads old new width wider s h =
    reads_stepped (Charge width) (Charge wider) (reads_in_turn (number_reads signed_tag old new s.order width wider s.encoding h)
    (λ n. subst (λ z. ReadsAll (pure z) (pure (integer_by width s.encoding n))) (integer_alike width wider s.encoding n h) (reads_itself (pure (integer_by width s.encoding n)))))

-- the shapes that read an unsigned integer,
pub unsigned_read : (old : IntegerType) (width : ℕ) (s : Setting) (new : Shape) → keeps s.encoding width (unsigned_width new) ≡ true → ReadsAll (format_of new s) (natural_number (unsigned_integer old width s))
unsigned_read old width s shapes.U16 h = reads_map (λ n. Number (pos n)) (unsigned_reads old integers.U16 width 2 s h)
unsigned_read old width s shapes.U32 h = reads_map (λ n. Number (pos n)) (unsigned_reads old integers.U32 width 4 s h)
unsigned_read old width s shapes.U64 h = reads_map (λ n. Number (pos n)) (unsigned_reads old integers.U64 width 8 s h)
unsigned_read old width s shapes.U128 h = reads_map (λ n. Number (pos n)) (unsigned_reads old integers.U128 width 16 s h)
unsigned_read old width s shapes.Usize h = reads_map (λ n. Number (pos n)) (unsigned_reads old integers.Usize width 8 s h)
unsigned_read old width s new h = absurd (cc)

-- and those that read a signed one
pub signed_read : (old : IntegerType) (width : ℕ) (s : Setting) (new : Shape) → keeps s.encoding width (signed_width new) ≡ true → ReadsAll (format_of new s) (integer_number (signed_integer old width s))
signed_read old width s shapes.I16 h = reads_map Number (signed_reads old integers.I16 width 2 s h)
signed_read old width s shapes.I32 h = reads_map Number (signed_reads old integers.I32 width 4 s h)
signed_read old width s shapes.I64 h = reads_map Number (signed_reads old integers.I64 width 8 s h)
signed_read old width s shapes.I128 h = reads_map Number (signed_reads old integers.I128 width 16 s h)
signed_read old width s shapes.Isize h = reads_map Number (signed_reads old integers.Isize width 8 s h)
signed_read old width s new h = absurd (cc)
