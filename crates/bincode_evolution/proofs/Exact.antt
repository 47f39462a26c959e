-- Between shapes without parts the rules are exact.
use Rattle.std.specs.Prelude.{◌≡◌, ℕ, ◌*◌, ◌^◌, ◌⊎◌, Bool, true, false, nat_lt, ℤ, pos, List, [], ◌∷◌, length, Some, refl}
use Rattle.std.proofs.Common.{◌∙◌, ap, sym, subst, inl, inr, arith}
use Rattle.std.proofs.lemmas.Bool.{cases_eq}
use Rattle.bincode_base.specs.declared.config.Endianness.{Endianness}
use Rattle.bincode_base.specs.declared.config.Endianness.TheVariants.{Little, Big}
use Rattle.bincode_base.specs.declared.config.IntEncoding.{IntEncoding}
use Rattle.bincode_base.specs.declared.config.IntEncoding.TheVariants.{Fixed, Variable}
use Rattle.bincode_base.specs.declared.error.IntegerType.{IntegerType}
use Rattle.bincode_base.specs.declared.error.IntegerType.TheVariants as integers
use Rattle.bincode_base.specs.Setting.{Setting}
use Rattle.bincode_spec.specs.Charge.{Charge}
use Rattle.bincode_spec.specs.Fault.{InvalidInteger}
use Rattle.bincode_spec.specs.Format.{Format, pure, fixed_bytes, step, ◌>>=◌, written_as, map_format}
use Rattle.bincode_spec.specs.Integers.{digits, first_of, byte, Itself, TooWide, first_byte, number_after, varint, number_by, unsigned_integer, integer_by, signed_integer, unsigned_byte, signed_byte, unsigned_tag, signed_tag, IsWidth, Two, Four, Eight, Sixteen}
use Rattle.bincode_spec.specs.Meaning.{Meaning, Number}
use Rattle.bincode_spec.specs.Number.{number_of, unzigzag, from_two_complement}
use Rattle.bincode_spec.specs.Words.{natural_number, integer_number}
use Rattle.bincode_shape.specs.declared.shape.Shape as shapes
use Rattle.bincode_shape.specs.declared.shape.Shape.{Shape}
use Rattle.bincode_shape.specs.Shapes.{format_of}
use Rattle.bincode_evolution.specs.Reading.{ReadsTo, Differs}
use Rattle.bincode_evolution.specs.Kinds.{Kind, OfNumber, kind_of, is_scalar, IsClear, of_scalars, of_kinds, of_lengths, of_lists, of_options, of_variants, of_missing, variant_at, is_choice}
use Rattle.bincode_evolution.specs.Rules.{has_words, is_u8, is_i8, unsigned_width, signed_width, keeps, is_read}
use Rattle.bincode_evolution.proofs.Kinded.{kinds-differ, lengths-differ}
use Rattle.bincode_evolution.proofs.Taking.{taken_in_turn, takes_in_turn, takes_pure, taken_pure, takes_map, taken_map, takes_stepped, taken_stepped, none_failed}
use Rattle.bincode_evolution.proofs.Inhabited.{shape_word}
use Rattle.bincode_evolution.proofs.Variants.{variant-differs, missing-differs}
use Rattle.bincode_evolution.proofs.Wholes.{list_whole, option_whole}
use Rattle.bincode_evolution.proofs.Widths.{Short, number_short, digits_short, untaken_all, takes_all, takes_byte, taken_byte, zeros, length-zeros}

-- the format reads numbers, each of which means an integer
record Numeric (F : Format Meaning) (R : Format ℕ) (value : ℕ → ℤ) : Type 0 where
  into : (input : List ℕ) (n : ℕ) (remaining : List ℕ) → ReadsTo (R.read input) n remaining → ReadsTo (F.read input) (Number (value n)) remaining
  out : (input : List ℕ) (m : Meaning) (remaining : List ℕ) → ReadsTo (F.read input) m remaining → (n : ℕ) × (m ≡ Number (value n)) × ReadsTo (R.read input) n remaining

plain_numeric : (n : ℕ) (R : Format ℕ) → Numeric (natural_number (step (Charge n) >>= λ _. R)) R pos
plain_numeric n R = record {
  into = λ input k remaining t. takes_map (λ z. Number (pos z)) (step (Charge n) >>= λ _. R) input k remaining (takes_stepped (Charge n) R input k remaining t);
  out = λ input m remaining t. let p = taken_map (λ z. Number (pos z)) (step (Charge n) >>= λ _. R) input m remaining t in (p.0, p.1, taken_stepped (Charge n) R input p.0 remaining p.2);
}

mapped_numeric : (n : ℕ) (R : Format ℕ) (f : ℕ → ℤ) → Numeric (integer_number (step (Charge n) >>= λ _. map_format f R)) R f
mapped_numeric n R f = record {
  into = λ input k remaining t. takes_map Number (step (Charge n) >>= λ _. map_format f R) input (f k) remaining (takes_stepped (Charge n) (map_format f R) input (f k) remaining (takes_map f R input k remaining t));
  out = λ input m remaining t.
      let p = taken_map Number (step (Charge n) >>= λ _. map_format f R) input m remaining t in
      let q = taken_map f R input p.0 remaining (taken_stepped (Charge n) (map_format f R) input p.0 remaining p.2) in
      (q.0, p.1 ∙ ap Number q.1, q.2);
}

-- the one takes all of an input and the other none
by_rest : (F G : Format Meaning) (R Q : Format ℕ) (f g : ℕ → ℤ) → Numeric F R f → Numeric G Q g → Short Q R → Differs G F
by_rest F G R Q f g a b short = record {
  input = short.input;
  remaining = [];
  meaning = Number (f short.number);
  taken = a.into short.input short.number [] short.taken;
  untaken = λ t. let p = b.out short.input (Number (f short.number)) [] t in short.untaken p.0 p.2;
}

-- both take one number, which means two integers
by_value : (F G : Format Meaning) (R Q : Format ℕ) (f g : ℕ → ℤ) → Numeric F R f → Numeric G Q g → (input : List ℕ) (n : ℕ) → ReadsTo (R.read input) n [] → ((k : ℕ) → ReadsTo (Q.read input) k [] → k ≡ n) →
    (f n ≡ g n → ⊥) → Differs G F
by_value F G R Q f g a b input n t only apart = record {
  input = input;
  remaining = [];
  meaning = Number (f n);
  taken = a.into input n [] t;
  untaken = λ u.
      let p = b.out input (Number (f n)) [] u in
      let k = only p.0 p.2 in
      let e : Number (f n) ≡ Number (g n) = p.1 ∙ ap (λ z. Number (g z)) k in
      let q : f n ≡ g n = cc in
      apart q;
}

at_least_two : (width : ℕ) → IsWidth width → width ≡ 1 → ⊥
at_least_two width (Two e) h = omega (arith, e, h)
at_least_two width (Four e) h = omega (arith, e, h)
at_least_two width (Eight e) h = omega (arith, e, h)
at_least_two width (Sixteen e) h = omega (arith, e, h)

-- one byte

byte_whole : (input : List ℕ) (m : ℕ) → ReadsTo (byte.read input) m [] → length input ≡ 1
unfolding byte
byte_whole input m t =
    let p = taken_map first_of (fixed_bytes 1) input m [] t in
    elim (cases_eq (length input) 1) [ inl e ↦ e | inr apart ↦ absurd (untaken_all 1 input p.0 apart p.2) ]

-- a byte that no wider integer takes alone
byte_short : (tags : ℕ → IntegerType) (name : IntegerType) (order : Endianness) (width : ℕ) (encoding : IntEncoding) → IsWidth width → Short (number_by tags name order width encoding) byte
unfolding varint written_as digits
byte_short tags name order width Fixed w = record {
  input = 0 ∷ [];
  number = 0;
  taken = takes_byte 0 [];
  untaken = λ n t. let p = taken_map (number_of order) (fixed_bytes width) (0 ∷ []) n [] t in untaken_all width (0 ∷ []) p.0 (λ e. at_least_two width w (sym e)) p.2;
}
byte_short tags name order width Variable w = record {
  input = 255 ∷ [];
  number = 255;
  taken = takes_byte 255 [];
  untaken = λ n t.
      let after = λ (first : ℕ). number_after order (InvalidInteger name (tags first)) first (first_byte width first) in
      let p = taken_in_turn byte after (255 ∷ []) n [] t in
      let e = taken_byte 255 [] p.head p.middle p.first in
      let f : first_byte width p.head ≡ TooWide = ap (first_byte width) e in
      (none_failed (InvalidInteger name (tags p.head))).none p.middle [] n
      (subst (λ z. ReadsTo ((number_after order (InvalidInteger name (tags p.head)) p.head z).read p.middle) n []) f p.second);
}

-- digits that no byte takes
wide_short : (tags : ℕ → IntegerType) (name : IntegerType) (order : Endianness) (width : ℕ) (encoding : IntEncoding) → IsWidth width → Short byte (number_by tags name order width encoding)
unfolding varint written_as digits
wide_short tags name order width Fixed w =
    let a = takes_all width (zeros width) (length-zeros width) in
    record {
      input = zeros width;
      number = number_of order a.0;
      taken = takes_map (number_of order) (fixed_bytes width) (zeros width) a.0 [] a.1;
      untaken = λ n t. at_least_two width w (sym (length-zeros width) ∙ byte_whole (zeros width) n t);
    }
wide_short tags name order width Variable w =
    let after = λ (first : ℕ). number_after order (InvalidInteger name (tags first)) first (first_byte width first) in
    let a = takes_all 2 (zeros 2) (length-zeros 2) in
    record {
      input = 251 ∷ zeros 2;
      number = number_of order a.0;
      taken = takes_in_turn byte after (251 ∷ zeros 2) (number_of order a.0) [] (record {
        head = 251;
        middle = zeros 2;
        first = takes_byte 251 (zeros 2);
        second = takes_map (number_of order) (fixed_bytes 2) (zeros 2) a.0 [] a.1;
      });
      untaken = λ n t. let k = byte_whole (251 ∷ zeros 2) n t in let l = length-zeros 2 in omega (arith, k, l);
    }

-- two bytes that mean different integers
bytes_differ : (F G : Format Meaning) (f g : ℕ → ℤ) → Numeric F byte f → Numeric G byte g → (f 255 ≡ g 255 → ⊥) → Differs G F
bytes_differ F G f g a b apart = by_value F G byte byte f g a b (255 ∷ []) 255 (takes_byte 255 []) (λ k t. taken_byte 255 [] k [] t) apart

-- numbers of one width with two signs

-- all bits of a width
record Full (order : Endianness) (width : ℕ) : Type 0 where
  input : List ℕ
  number : ℕ
  taken : ReadsTo ((digits order width).read input) number []
  is_high : nat_lt (2 * number) (256 ^ width) ≡ false

full : (order : Endianness) (width : ℕ) → IsWidth width → Full order width
unfolding digits written_as ◌>>=◌ fixed_bytes pure
full Little width (Two e) = rw e (record { input = 255 ∷ 255 ∷ []; number = 65535; taken = ([], refl); is_high = refl })
full Big width (Two e) = rw e (record { input = 255 ∷ 255 ∷ []; number = 65535; taken = ([], refl); is_high = refl })
full Little width (Four e) = rw e (record { input = 255 ∷ 255 ∷ 255 ∷ 255 ∷ []; number = 4294967295; taken = ([], refl); is_high = refl })
full Big width (Four e) = rw e (record { input = 255 ∷ 255 ∷ 255 ∷ 255 ∷ []; number = 4294967295; taken = ([], refl); is_high = refl })
full Little width (Eight e) = rw e (record { input = 255 ∷ 255 ∷ 255 ∷ 255 ∷ 255 ∷ 255 ∷ 255 ∷ 255 ∷ []; number = 18446744073709551615; taken = ([], refl); is_high = refl })
full Big width (Eight e) = rw e (record { input = 255 ∷ 255 ∷ 255 ∷ 255 ∷ 255 ∷ 255 ∷ 255 ∷ 255 ∷ []; number = 18446744073709551615; taken = ([], refl); is_high = refl })
full Little width (Sixteen e) =
    rw e (record {
      input = 255 ∷ 255 ∷ 255 ∷ 255 ∷ 255 ∷ 255 ∷ 255 ∷ 255 ∷ 255 ∷ 255 ∷ 255 ∷ 255 ∷ 255 ∷ 255 ∷ 255 ∷ 255 ∷ [];
      number = 340282366920938463463374607431768211455;
      taken = ([], refl);
      is_high = refl;
    })
full Big width (Sixteen e) =
    rw e (record {
      input = 255 ∷ 255 ∷ 255 ∷ 255 ∷ 255 ∷ 255 ∷ 255 ∷ 255 ∷ 255 ∷ 255 ∷ 255 ∷ 255 ∷ 255 ∷ 255 ∷ 255 ∷ 255 ∷ [];
      number = 340282366920938463463374607431768211455;
      taken = ([], refl);
      is_high = refl;
    })

one_taken : (tags : ℕ → IntegerType) (name : IntegerType) (order : Endianness) (width : ℕ) → ReadsTo ((varint tags name order width).read (1 ∷ [])) 1 []
unfolding varint written_as
one_taken tags name order width =
    takes_in_turn byte (λ first. number_after order (InvalidInteger name (tags first)) first (first_byte width first)) (1 ∷ []) 1 [] (record { head = 1; middle = []; first = takes_byte 1 []; second = takes_pure 1 [] })

one_only : (tags : ℕ → IntegerType) (name : IntegerType) (order : Endianness) (width k : ℕ) → ReadsTo ((varint tags name order width).read (1 ∷ [])) k [] → k ≡ 1
unfolding varint written_as
one_only tags name order width k t =
    let p = taken_in_turn byte (λ first. number_after order (InvalidInteger name (tags first)) first (first_byte width first)) (1 ∷ []) k [] t in
    let e = taken_byte 1 [] p.head p.middle p.first in
    let f : first_byte width p.head ≡ Itself = ap (first_byte width) e in
    let q = taken_pure p.head p.middle k [] (subst (λ z. ReadsTo ((number_after order (InvalidInteger name (tags p.head)) p.head z).read p.middle) k []) f p.second) in
    q.0 ∙ e

same_number : (R : Format ℕ) (input : List ℕ) (n k : ℕ) → ReadsTo (R.read input) n [] → ReadsTo (R.read input) k [] → k ≡ n
same_number R input n k t u = let e = sym t.1 ∙ u.1 in cc

high_apart : (width n : ℕ) → nat_lt (2 * n) (256 ^ width) ≡ false → pos n ≡ from_two_complement width n → ⊥
high_apart width n h e = let k = rw h at e in absurd (cc)

-- an unsigned integer, and a signed one
unsigned_signed : (F G : Format Meaning) (old new : IntegerType) (order : Endianness) (width other : ℕ) (encoding : IntEncoding) → IsWidth width → IsWidth other →
    Numeric F (number_by unsigned_tag old order width encoding) pos → Numeric G (number_by signed_tag new order other encoding) (integer_by other encoding) → Differs G F
unsigned_signed F G old new order width other Fixed w v a b =
    elim (cases_eq width other) [
      | inl e ↦
          let top = full order width w in
          let same : ReadsTo ((digits order other).read top.input) top.number [] = subst (λ z. ReadsTo ((digits order z).read top.input) top.number []) e top.taken in
          by_value F G (digits order width) (digits order other) pos (from_two_complement other) a b top.input top.number top.taken
          (λ k t. same_number (digits order other) top.input top.number k same t)
          (subst (λ z. pos top.number ≡ from_two_complement z top.number → ⊥) e (high_apart width top.number top.is_high))
      | inr apart ↦ by_rest F G (digits order width) (digits order other) pos (from_two_complement other) a b (digits_short order width other apart)
    ]
unsigned_signed F G old new order width other Variable w v a b =
    by_value F G (varint unsigned_tag old order width) (varint signed_tag new order other) pos unzigzag a b (1 ∷ []) 1 (one_taken unsigned_tag old order width) (λ k t. one_only signed_tag new order other k t) (λ e. absurd (cc))

signed_unsigned : (F G : Format Meaning) (old new : IntegerType) (order : Endianness) (width other : ℕ) (encoding : IntEncoding) → IsWidth width → IsWidth other →
    Numeric F (number_by signed_tag old order width encoding) (integer_by width encoding) → Numeric G (number_by unsigned_tag new order other encoding) pos → Differs G F
signed_unsigned F G old new order width other Fixed w v a b =
    elim (cases_eq width other) [
      | inl e ↦
          let top = full order width w in
          let same : ReadsTo ((digits order other).read top.input) top.number [] = subst (λ z. ReadsTo ((digits order z).read top.input) top.number []) e top.taken in
          by_value F G (digits order width) (digits order other) (from_two_complement width) pos a b top.input top.number top.taken
          (λ k t. same_number (digits order other) top.input top.number k same t)
          (λ q. high_apart width top.number top.is_high (sym q))
      | inr apart ↦ by_rest F G (digits order width) (digits order other) (from_two_complement width) pos a b (digits_short order width other apart)
    ]
signed_unsigned F G old new order width other Variable w v a b =
    by_value F G (varint signed_tag old order width) (varint unsigned_tag new order other) unzigzag pos a b (1 ∷ []) 1 (one_taken signed_tag old order width) (λ k t. one_only unsigned_tag new order other k t) (λ e. absurd (cc))

-- what is known of the shape of a number
data NumberShape (s : Setting) (shape : Shape) : Type 0 where
  small_unsigned : is_u8 shape ≡ true → ((new : Shape) → is_read s.encoding shape new ≡ is_u8 new) → Numeric (format_of shape s) byte pos → NumberShape s shape
  small_signed : is_i8 shape ≡ true → ((new : Shape) → is_read s.encoding shape new ≡ is_i8 new) → Numeric (format_of shape s) byte (from_two_complement 1) → NumberShape s shape
  wide_unsigned : (name : IntegerType) (width : ℕ) → IsWidth width → unsigned_width shape ≡ Some width → ((new : Shape) → is_read s.encoding shape new ≡ keeps s.encoding width (unsigned_width new)) →
      Numeric (format_of shape s) (number_by unsigned_tag name s.order width s.encoding) pos → NumberShape s shape
  wide_signed : (name : IntegerType) (width : ℕ) → IsWidth width → signed_width shape ≡ Some width → ((new : Shape) → is_read s.encoding shape new ≡ keeps s.encoding width (signed_width new)) →
      Numeric (format_of shape s) (number_by signed_tag name s.order width s.encoding) (integer_by width s.encoding) → NumberShape s shape

number_shape : (shape : Shape) (s : Setting) → kind_of shape ≡ OfNumber → NumberShape s shape
unfolding unsigned_byte signed_byte unsigned_integer signed_integer
number_shape shapes.U8 s e = small_unsigned refl (λ new. refl) (plain_numeric 1 byte)
number_shape shapes.I8 s e = small_signed refl (λ new. refl) (mapped_numeric 1 byte (from_two_complement 1))
number_shape shapes.U16 s e = wide_unsigned integers.U16 2 (Two refl) refl (λ new. refl) (plain_numeric 2 (number_by unsigned_tag integers.U16 s.order 2 s.encoding))
number_shape shapes.U32 s e = wide_unsigned integers.U32 4 (Four refl) refl (λ new. refl) (plain_numeric 4 (number_by unsigned_tag integers.U32 s.order 4 s.encoding))
number_shape shapes.U64 s e = wide_unsigned integers.U64 8 (Eight refl) refl (λ new. refl) (plain_numeric 8 (number_by unsigned_tag integers.U64 s.order 8 s.encoding))
number_shape shapes.U128 s e = wide_unsigned integers.U128 16 (Sixteen refl) refl (λ new. refl) (plain_numeric 16 (number_by unsigned_tag integers.U128 s.order 16 s.encoding))
number_shape shapes.Usize s e = wide_unsigned integers.Usize 8 (Eight refl) refl (λ new. refl) (plain_numeric 8 (number_by unsigned_tag integers.Usize s.order 8 s.encoding))
number_shape shapes.I16 s e = wide_signed integers.I16 2 (Two refl) refl (λ new. refl) (mapped_numeric 2 (number_by signed_tag integers.I16 s.order 2 s.encoding) (integer_by 2 s.encoding))
number_shape shapes.I32 s e = wide_signed integers.I32 4 (Four refl) refl (λ new. refl) (mapped_numeric 4 (number_by signed_tag integers.I32 s.order 4 s.encoding) (integer_by 4 s.encoding))
number_shape shapes.I64 s e = wide_signed integers.I64 8 (Eight refl) refl (λ new. refl) (mapped_numeric 8 (number_by signed_tag integers.I64 s.order 8 s.encoding) (integer_by 8 s.encoding))
number_shape shapes.I128 s e = wide_signed integers.I128 16 (Sixteen refl) refl (λ new. refl) (mapped_numeric 16 (number_by signed_tag integers.I128 s.order 16 s.encoding) (integer_by 16 s.encoding))
number_shape shapes.Isize s e = wide_signed integers.Isize 8 (Eight refl) refl (λ new. refl) (mapped_numeric 8 (number_by signed_tag integers.Isize s.order 8 s.encoding) (integer_by 8 s.encoding))
number_shape shape s e = absurd (cc)

not_both : (a b : Bool) → a ≡ b → b ≡ true → a ≡ false → ⊥
not_both a b e f g = let k : true ≡ false = sym f ∙ sym e ∙ g in cc

numbers_exact : (old new : Shape) (s : Setting) → NumberShape s old → NumberShape s new → is_read s.encoding old new ≡ false → Differs (format_of new s) (format_of old s)
numbers_exact old new s (small_unsigned u rule a) (small_unsigned v other b) h = absurd (not_both (is_read s.encoding old new) (is_u8 new) (rule new) v h)
numbers_exact old new s (small_unsigned u rule a) (small_signed v other b) h = bytes_differ (format_of old s) (format_of new s) pos (from_two_complement 1) a b (λ e. absurd (cc))
numbers_exact old new s (small_unsigned u rule a) (wide_unsigned name width w v other b) h =
    by_rest (format_of old s) (format_of new s) byte _ pos pos a b (byte_short unsigned_tag name s.order width s.encoding w)
numbers_exact old new s (small_unsigned u rule a) (wide_signed name width w v other b) h =
    by_rest (format_of old s) (format_of new s) byte _ pos (integer_by width s.encoding) a b (byte_short signed_tag name s.order width s.encoding w)
numbers_exact old new s (small_signed u rule a) (small_unsigned v other b) h = bytes_differ (format_of old s) (format_of new s) (from_two_complement 1) pos a b (λ e. absurd (cc))
numbers_exact old new s (small_signed u rule a) (small_signed v other b) h = absurd (not_both (is_read s.encoding old new) (is_i8 new) (rule new) v h)
numbers_exact old new s (small_signed u rule a) (wide_unsigned name width w v other b) h =
    by_rest (format_of old s) (format_of new s) byte _ (from_two_complement 1) pos a b (byte_short unsigned_tag name s.order width s.encoding w)
numbers_exact old new s (small_signed u rule a) (wide_signed name width w v other b) h =
    by_rest (format_of old s) (format_of new s) byte _ (from_two_complement 1) (integer_by width s.encoding) a b (byte_short signed_tag name s.order width s.encoding w)
numbers_exact old new s (wide_unsigned name width w u rule a) (small_unsigned v other b) h =
    by_rest (format_of old s) (format_of new s) _ byte pos pos a b (wide_short unsigned_tag name s.order width s.encoding w)
numbers_exact old new s (wide_unsigned name width w u rule a) (small_signed v other b) h =
    by_rest (format_of old s) (format_of new s) _ byte pos (from_two_complement 1) a b (wide_short unsigned_tag name s.order width s.encoding w)
numbers_exact old new s (wide_unsigned name width w u rule a) (wide_unsigned name' width' w' v other b) h =
    by_rest (format_of old s) (format_of new s) _ _ pos pos a b
    (number_short unsigned_tag name name' s.order width width' s.encoding w w' (ap (keeps s.encoding width) (sym v) ∙ sym (rule new) ∙ h))
numbers_exact old new s (wide_unsigned name width w u rule a) (wide_signed name' width' w' v other b) h =
    unsigned_signed (format_of old s) (format_of new s) name name' s.order width width' s.encoding w w' a b
numbers_exact old new s (wide_signed name width w u rule a) (small_unsigned v other b) h =
    by_rest (format_of old s) (format_of new s) _ byte (integer_by width s.encoding) pos a b (wide_short signed_tag name s.order width s.encoding w)
numbers_exact old new s (wide_signed name width w u rule a) (small_signed v other b) h =
    by_rest (format_of old s) (format_of new s) _ byte (integer_by width s.encoding) (from_two_complement 1) a b (wide_short signed_tag name s.order width s.encoding w)
numbers_exact old new s (wide_signed name width w u rule a) (wide_unsigned name' width' w' v other b) h =
    signed_unsigned (format_of old s) (format_of new s) name name' s.order width width' s.encoding w w' a b
numbers_exact old new s (wide_signed name width w u rule a) (wide_signed name' width' w' v other b) h =
    by_rest (format_of old s) (format_of new s) _ _ (integer_by width s.encoding) (integer_by width' s.encoding) a b
    (number_short signed_tag name name' s.order width width' s.encoding w w' (ap (keeps s.encoding width) (sym v) ∙ sym (rule new) ∙ h))

number_or : (k : Kind) → (k ≡ OfNumber) ⊎ (k ≡ OfNumber → ⊥)
number_or OfNumber = inl refl
number_or k = inr (λ e. absurd (cc))

scalar_words : (shape : Shape) → is_scalar shape ≡ true → has_words shape ≡ true
scalar_words (shapes.Seq' claim p element) h = absurd (cc)
scalar_words (shapes.Array' n claim p element) h = absurd (cc)
scalar_words (shapes.Tuple' v parts) h = absurd (cc)
scalar_words (shapes.Optional' p part) h = absurd (cc)
scalar_words (shapes.Choice' v parts) h = absurd (cc)
scalar_words shape h = refl

others_exact : (old new : Shape) (s : Setting) → is_scalar old ≡ true → is_scalar new ≡ true → (kind_of old ≡ OfNumber → ⊥) → is_read s.encoding old new ≡ false → Differs (format_of new s) (format_of old s)
others_exact shapes.Unit shapes.Unit s i j apart h = absurd (cc)
others_exact shapes.Unit new s i j apart h = kinds-differ shapes.Unit new s refl (λ e. absurd (cc))
others_exact shapes.Bool shapes.Bool s i j apart h = absurd (cc)
others_exact shapes.Bool new s i j apart h = kinds-differ shapes.Bool new s refl (λ e. absurd (cc))
others_exact shapes.Char shapes.Char s i j apart h = absurd (cc)
others_exact shapes.Char new s i j apart h = kinds-differ shapes.Char new s refl (λ e. absurd (cc))
others_exact shapes.Text shapes.Text s i j apart h = absurd (cc)
others_exact shapes.Text new s i j apart h = kinds-differ shapes.Text new s refl (λ e. absurd (cc))
others_exact (shapes.Seq' claim p element) new s i j apart h = absurd (cc)
others_exact (shapes.Array' n claim p element) new s i j apart h = absurd (cc)
others_exact (shapes.Tuple' v parts) new s i j apart h = absurd (cc)
others_exact (shapes.Optional' p part) new s i j apart h = absurd (cc)
others_exact (shapes.Choice' v parts) new s i j apart h = absurd (cc)
others_exact old new s i j apart h = absurd (apart refl)

-- Of two shapes without parts, where the rules say no, an input shows it.
scalars-exact : (old new : Shape) (s : Setting) → is_scalar old ≡ true → is_scalar new ≡ true → is_read s.encoding old new ≡ false → Differs (format_of new s) (format_of old s)
scalars-exact old new s i j h =
    elim (number_or (kind_of old)) [
      | inl e ↦
          elim (number_or (kind_of new)) [
            | inl f ↦ numbers_exact old new s (number_shape old s e) (number_shape new s f) h
            | inr apart ↦ kinds-differ old new s (scalar_words old i) (λ q. apart (sym q ∙ e))
          ]
      | inr apart ↦ others_exact old new s i j apart h
    ]

choice_since : (shape : Shape) (n : ℕ) (b : Shape) → variant_at shape n ≡ Some b → is_choice shape ≡ true
choice_since (shapes.Choice' v parts) n b e = refl
choice_since shape n b e = absurd (cc)

-- Where the case is clear and the rules say no, an input shows it.
pub clear-exact : (s : Setting) (old new : Shape) → IsClear s.encoding new old → is_read s.encoding old new ≡ false → Differs (format_of new s) (format_of old s)
clear-exact s old new (of_scalars i j) h = scalars-exact old new s i j h
clear-exact s old new (of_kinds w apart) h = kinds-differ old new s w apart
clear-exact s old new (of_lengths n k w e f apart) h = lengths-differ old new s n k w e f apart
clear-exact s old new (of_lists a b e f clear) h = let w = list_whole s old new a b e f in w.differs (clear-exact s a b clear (sym w.rule_is ∙ h))
clear-exact s old new (of_options a b e f clear) h = let w = option_whole s old new a b e f in w.differs (clear-exact s a b clear (sym w.rule_is ∙ h))
clear-exact s old new (of_variants n a b e f unread clear) h = variant-differs old new s n a b e f (choice_since new n b f) (clear-exact s a b clear unread)
clear-exact s old new (of_missing n a e i f w) h = missing-differs old new s n a e f i (shape_word a s w)
