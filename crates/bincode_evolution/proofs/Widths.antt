-- Between integers of two bytes or more, both unsigned or both signed, the rule of widths is exact.
use Rattle.std.specs.Prelude.{◌≡◌, ℕ, zero, suc, ◌<◌, true, false, nat_lt, pos, List, [], ◌∷◌, length, take, drop, Some, refl}
use Rattle.std.proofs.Common.{◌∙◌, ap, sym, subst, inl, inr, arith, length-drop}
use Rattle.std.proofs.lemmas.Bool.{eqb-false, leb-false, le-ltb, lt-ltb, cases_lt}
use Rattle.std.proofs.lemmas.List.{drop_all}
use Rattle.bincode_base.specs.declared.config.Endianness.{Endianness}
use Rattle.bincode_base.specs.declared.config.IntEncoding.{IntEncoding}
use Rattle.bincode_base.specs.declared.config.IntEncoding.TheVariants.{Fixed, Variable}
use Rattle.bincode_base.specs.declared.error.IntegerType.{IntegerType}
use Rattle.bincode_base.specs.declared.error.IntegerType.TheVariants as integers
use Rattle.bincode_base.specs.Setting.{Setting}
use Rattle.bincode_spec.specs.Charge.{Charge}
use Rattle.bincode_spec.specs.Fault.{InvalidInteger}
use Rattle.bincode_spec.specs.Format.{Format, Took, fixed_bytes, step, ◌>>=◌, written_as, map_format}
use Rattle.bincode_spec.specs.Integers.{digits, first_of, byte, Before, TooWide, first_byte, number_after, varint, number_by, unsigned_integer, integer_by, signed_integer, unsigned_tag, signed_tag, IsWidth, Two, Four, Eight, Sixteen}
use Rattle.bincode_spec.specs.Meaning.{Number}
use Rattle.bincode_spec.specs.Number.{number_of}
use Rattle.bincode_spec.specs.Words.{natural_number, integer_number}
use Rattle.bincode_shape.specs.declared.shape.Shape as shapes
use Rattle.bincode_shape.specs.declared.shape.Shape.{Shape}
use Rattle.bincode_shape.specs.Shapes.{format_of}
use Rattle.bincode_evolution.specs.Reading.{ReadsTo, Differs}
use Rattle.bincode_evolution.specs.Rules.{keeps, unsigned_width, signed_width, is_read}
use Rattle.bincode_evolution.proofs.Taking.{taken_in_turn, takes_in_turn, takes_map, taken_map, takes_stepped, taken_stepped, none_failed}

-- one number takes all of an input, and another none
pub record Short (new old : Format ℕ) : Type 0 where
  pub input : List ℕ
  pub number : ℕ
  pub taken : ReadsTo (old.read input) number []
  pub untaken : (n : ℕ) → ReadsTo (new.read input) n [] → ⊥

pub zeros : ℕ → List ℕ
zeros zero = []
zeros (suc n) = 0 ∷ zeros n

pub length-zeros : (n : ℕ) → length (zeros n) ≡ n
unfolding zeros
length-zeros zero = refl
length-zeros (suc n) = ap suc (length-zeros n)

-- so many bytes
pub takes_all : (n : ℕ) (input : List ℕ) → length input ≡ n → (bytes : List ℕ) × ReadsTo ((fixed_bytes n).read input) bytes []
unfolding fixed_bytes
takes_all n input h =
    let e : nat_lt (length input) n ≡ false = le-ltb (length input) n (omega (arith, h)) in
    let d : drop n input ≡ [] = drop_all n input (omega (arith, h)) in
    (take n input, ([], rw e (ap (λ z. Took (take n input) z []) d)))

pub untaken_all : (n : ℕ) (input bytes : List ℕ) → (length input ≡ n → ⊥) → ReadsTo ((fixed_bytes n).read input) bytes [] → ⊥
unfolding fixed_bytes
untaken_all n input bytes h t =
    elim (cases_lt (length input) n) [
      | inl short ↦ let e : nat_lt (length input) n ≡ true = lt-ltb (length input) n short in let k = rw e at t.1 in absurd (cc)
      | inr long ↦
          let e : nat_lt (length input) n ≡ false = le-ltb (length input) n long in
          let k = rw e at t.1 in
          let d : drop n input ≡ [] = cc in
          let l = length-drop n input in
          let m : length (drop n input) ≡ 0 = ap length d in
          h (omega (arith, long, l, m))
    ]

pub digits_short : (order : Endianness) (width other : ℕ) → (width ≡ other → ⊥) → Short (digits order other) (digits order width)
unfolding digits written_as
digits_short order width other h =
    let w = takes_all width (zeros width) (length-zeros width) in
    record {
      input = zeros width;
      number = number_of order w.0;
      taken = takes_map (number_of order) (fixed_bytes width) (zeros width) w.0 [] w.1;
      untaken = λ n t.
          let p = taken_map (number_of order) (fixed_bytes other) (zeros width) n [] t in
          untaken_all other (zeros width) p.0 (λ e. h (sym (length-zeros width) ∙ e)) p.2;
    }

-- a first byte
pub takes_byte : (b : ℕ) (rest : List ℕ) → ReadsTo (byte.read (b ∷ rest)) b rest
unfolding byte fixed_bytes
takes_byte b rest =
    let e : nat_lt (length (b ∷ rest)) 1 ≡ false = le-ltb (length (b ∷ rest)) 1 (omega arith) in
    takes_map first_of (fixed_bytes 1) (b ∷ rest) (b ∷ []) rest ([], rw e refl)

pub taken_byte : (b : ℕ) (rest : List ℕ) (m : ℕ) (remaining : List ℕ) → ReadsTo (byte.read (b ∷ rest)) m remaining → m ≡ b
unfolding byte fixed_bytes
taken_byte b rest m remaining t =
    let e : nat_lt (length (b ∷ rest)) 1 ≡ false = le-ltb (length (b ∷ rest)) 1 (omega arith) in
    let p = taken_map first_of (fixed_bytes 1) (b ∷ rest) m remaining t in
    let k = rw e at p.2.1 in
    let f : p.0 ≡ b ∷ [] = cc in
    p.1 ∙ ap first_of f

-- a tag that the one knows and the other does not
varint_short : (tags : ℕ → IntegerType) (old new : IntegerType) (order : Endianness) (width narrower tag count : ℕ) → first_byte width tag ≡ Before count → first_byte narrower tag ≡ TooWide →
    Short (varint tags new order narrower) (varint tags old order width)
unfolding varint written_as digits
varint_short tags old new order width narrower tag count known unknown =
    let after = λ (name : IntegerType) (wide first : ℕ). number_after order (InvalidInteger name (tags first)) first (first_byte wide first) in
    let w = takes_all count (zeros count) (length-zeros count) in
    let digits_taken : ReadsTo ((number_after order (InvalidInteger old (tags tag)) tag (Before count)).read (zeros count)) (number_of order w.0) [] =
    takes_map (number_of order) (fixed_bytes count) (zeros count) w.0 [] w.1 in
    record {
      input = tag ∷ zeros count;
      number = number_of order w.0;
      taken = takes_in_turn byte (after old width) (tag ∷ zeros count) (number_of order w.0) [] (record {
        head = tag;
        middle = zeros count;
        first = takes_byte tag (zeros count);
        second = subst (λ z. ReadsTo ((number_after order (InvalidInteger old (tags tag)) tag z).read (zeros count)) (number_of order w.0) []) (sym known) digits_taken;
      });
      untaken = λ n t.
          let p = taken_in_turn byte (after new narrower) (tag ∷ zeros count) n [] t in
          let e = taken_byte tag (zeros count) p.head p.middle p.first in
          let f : first_byte narrower p.head ≡ TooWide = ap (first_byte narrower) e ∙ unknown in
          (none_failed (InvalidInteger new (tags p.head))).none p.middle [] n
          (subst (λ z. ReadsTo ((number_after order (InvalidInteger new (tags p.head)) p.head z).read p.middle) n []) f p.second);
    }

-- a narrower width lacks the tag of the wider one
by_tag : (tags : ℕ → IntegerType) (old new : IntegerType) (order : Endianness) (width narrower : ℕ) → IsWidth width → IsWidth narrower → narrower < width → Short (varint tags new order narrower) (varint tags old order width)
by_tag tags old new order width narrower (Four e) (Two f) h = rw (e, f) (varint_short tags old new order 4 2 252 4 refl refl)
by_tag tags old new order width narrower (Eight e) (Two f) h = rw (e, f) (varint_short tags old new order 8 2 253 8 refl refl)
by_tag tags old new order width narrower (Eight e) (Four f) h = rw (e, f) (varint_short tags old new order 8 4 253 8 refl refl)
by_tag tags old new order width narrower (Sixteen e) (Two f) h = rw (e, f) (varint_short tags old new order 16 2 254 16 refl refl)
by_tag tags old new order width narrower (Sixteen e) (Four f) h = rw (e, f) (varint_short tags old new order 16 4 254 16 refl refl)
by_tag tags old new order width narrower (Sixteen e) (Eight f) h = rw (e, f) (varint_short tags old new order 16 8 254 16 refl refl)
by_tag tags old new order width narrower (Two e) (Two f) h = absurd (omega (arith, e, f, h))
by_tag tags old new order width narrower (Two e) (Four f) h = absurd (omega (arith, e, f, h))
by_tag tags old new order width narrower (Two e) (Eight f) h = absurd (omega (arith, e, f, h))
by_tag tags old new order width narrower (Two e) (Sixteen f) h = absurd (omega (arith, e, f, h))
by_tag tags old new order width narrower (Four e) (Four f) h = absurd (omega (arith, e, f, h))
by_tag tags old new order width narrower (Four e) (Eight f) h = absurd (omega (arith, e, f, h))
by_tag tags old new order width narrower (Four e) (Sixteen f) h = absurd (omega (arith, e, f, h))
by_tag tags old new order width narrower (Eight e) (Eight f) h = absurd (omega (arith, e, f, h))
by_tag tags old new order width narrower (Eight e) (Sixteen f) h = absurd (omega (arith, e, f, h))
by_tag tags old new order width narrower (Sixteen e) (Sixteen f) h = absurd (omega (arith, e, f, h))

pub number_short : (tags : ℕ → IntegerType) (old new : IntegerType) (order : Endianness) (width other : ℕ) (encoding : IntEncoding) → IsWidth width → IsWidth other → keeps encoding width (Some other) ≡ false →
    Short (number_by tags new order other encoding) (number_by tags old order width encoding)
number_short tags old new order width other Fixed w v h = digits_short order width other (eqb-false width other h)
number_short tags old new order width other Variable w v h = by_tag tags old new order width other w v (leb-false width other h)

-- unsigned integers, and signed ones
unsigned_differs : (old new : IntegerType) (width other : ℕ) (s : Setting) → IsWidth width → IsWidth other → keeps s.encoding width (Some other) ≡ false →
    Differs (natural_number (unsigned_integer new other s)) (natural_number (unsigned_integer old width s))
unfolding unsigned_integer
unsigned_differs old new width other s w v h =
    let short = number_short unsigned_tag old new s.order width other s.encoding w v h in
    let F = number_by unsigned_tag old s.order width s.encoding in
    let G = number_by unsigned_tag new s.order other s.encoding in
    record {
      input = short.input;
      remaining = [];
      meaning = Number (pos short.number);
      taken = takes_map (λ n. Number (pos n)) (step (Charge width) >>= λ _. F) short.input short.number [] (takes_stepped (Charge width) F short.input short.number [] short.taken);
      untaken = λ t.
          let p = taken_map (λ n. Number (pos n)) (step (Charge other) >>= λ _. G) short.input (Number (pos short.number)) [] t in
          short.untaken p.0 (taken_stepped (Charge other) G short.input p.0 [] p.2);
    }

signed_differs : (old new : IntegerType) (width other : ℕ) (s : Setting) → IsWidth width → IsWidth other → keeps s.encoding width (Some other) ≡ false →
    Differs (integer_number (signed_integer new other s)) (integer_number (signed_integer old width s))
unfolding signed_integer
signed_differs old new width other s w v h =
    let short = number_short signed_tag old new s.order width other s.encoding w v h in
    let F = number_by signed_tag old s.order width s.encoding in
    let G = number_by signed_tag new s.order other s.encoding in
    let of_old = integer_by width s.encoding in
    let of_new = integer_by other s.encoding in
    record {
      input = short.input;
      remaining = [];
      meaning = Number (of_old short.number);
      taken = takes_map Number (step (Charge width) >>= λ _. map_format of_old F) short.input (of_old short.number) []
          (takes_stepped (Charge width) (map_format of_old F) short.input (of_old short.number) [] (takes_map of_old F short.input short.number [] short.taken));
      untaken = λ t.
          let p = taken_map Number (step (Charge other) >>= λ _. map_format of_new G) short.input (Number (of_old short.number)) [] t in
          let q = taken_map of_new G short.input p.0 [] (taken_stepped (Charge other) (map_format of_new G) short.input p.0 [] p.2) in
          short.untaken q.0 q.2;
    }

-- the shape is an unsigned integer of this width
record IsUnsigned (shape : Shape) (width : ℕ) (s : Setting) : Type 1 where
  name : IntegerType
  is_width : IsWidth width
  format_is : format_of shape s ≡ natural_number (unsigned_integer name width s)
  rule_is : (new : Shape) → is_read s.encoding shape new ≡ keeps s.encoding width (unsigned_width new)

is_unsigned : (shape : Shape) (width : ℕ) (s : Setting) → unsigned_width shape ≡ Some width → IsUnsigned shape width s
is_unsigned shapes.U16 width s e = let k : 2 ≡ width = cc in subst (λ z. IsUnsigned shapes.U16 z s) k (record { name = integers.U16; is_width = Two refl; format_is = refl; rule_is = λ new. refl })
is_unsigned shapes.U32 width s e = let k : 4 ≡ width = cc in subst (λ z. IsUnsigned shapes.U32 z s) k (record { name = integers.U32; is_width = Four refl; format_is = refl; rule_is = λ new. refl })
is_unsigned shapes.U64 width s e = let k : 8 ≡ width = cc in subst (λ z. IsUnsigned shapes.U64 z s) k (record { name = integers.U64; is_width = Eight refl; format_is = refl; rule_is = λ new. refl })
is_unsigned shapes.U128 width s e = let k : 16 ≡ width = cc in subst (λ z. IsUnsigned shapes.U128 z s) k (record { name = integers.U128; is_width = Sixteen refl; format_is = refl; rule_is = λ new. refl })
is_unsigned shapes.Usize width s e = let k : 8 ≡ width = cc in subst (λ z. IsUnsigned shapes.Usize z s) k (record { name = integers.Usize; is_width = Eight refl; format_is = refl; rule_is = λ new. refl })
is_unsigned shape width s e = absurd (cc)

record IsSigned (shape : Shape) (width : ℕ) (s : Setting) : Type 1 where
  name : IntegerType
  is_width : IsWidth width
  format_is : format_of shape s ≡ integer_number (signed_integer name width s)
  rule_is : (new : Shape) → is_read s.encoding shape new ≡ keeps s.encoding width (signed_width new)

is_signed : (shape : Shape) (width : ℕ) (s : Setting) → signed_width shape ≡ Some width → IsSigned shape width s
is_signed shapes.I16 width s e = let k : 2 ≡ width = cc in subst (λ z. IsSigned shapes.I16 z s) k (record { name = integers.I16; is_width = Two refl; format_is = refl; rule_is = λ new. refl })
is_signed shapes.I32 width s e = let k : 4 ≡ width = cc in subst (λ z. IsSigned shapes.I32 z s) k (record { name = integers.I32; is_width = Four refl; format_is = refl; rule_is = λ new. refl })
is_signed shapes.I64 width s e = let k : 8 ≡ width = cc in subst (λ z. IsSigned shapes.I64 z s) k (record { name = integers.I64; is_width = Eight refl; format_is = refl; rule_is = λ new. refl })
is_signed shapes.I128 width s e = let k : 16 ≡ width = cc in subst (λ z. IsSigned shapes.I128 z s) k (record { name = integers.I128; is_width = Sixteen refl; format_is = refl; rule_is = λ new. refl })
is_signed shapes.Isize width s e = let k : 8 ≡ width = cc in subst (λ z. IsSigned shapes.Isize z s) k (record { name = integers.Isize; is_width = Eight refl; format_is = refl; rule_is = λ new. refl })
is_signed shape width s e = absurd (cc)

-- Of two unsigned integers of two bytes or more, where the rule says no, an input shows it,
pub unsigned-exact : (old new : Shape) (width other : ℕ) (s : Setting) → unsigned_width old ≡ Some width → unsigned_width new ≡ Some other → is_read s.encoding old new ≡ false →
    Differs (format_of new s) (format_of old s)
unsigned-exact old new width other s e f h =
    let a = is_unsigned old width s e in
    let b = is_unsigned new other s f in
    let k : keeps s.encoding width (Some other) ≡ false = ap (keeps s.encoding width) (sym f) ∙ sym (a.rule_is new) ∙ h in
    subst (λ F. Differs (format_of new s) F) (sym a.format_is)
    (subst (λ G. Differs G (natural_number (unsigned_integer a.name width s))) (sym b.format_is) (unsigned_differs a.name b.name width other s a.is_width b.is_width k))

-- and so of two signed ones
pub signed-exact : (old new : Shape) (width other : ℕ) (s : Setting) → signed_width old ≡ Some width → signed_width new ≡ Some other → is_read s.encoding old new ≡ false →
    Differs (format_of new s) (format_of old s)
signed-exact old new width other s e f h =
    let a = is_signed old width s e in
    let b = is_signed new other s f in
    let k : keeps s.encoding width (Some other) ≡ false = ap (keeps s.encoding width) (sym f) ∙ sym (a.rule_is new) ∙ h in
    subst (λ F. Differs (format_of new s) F) (sym a.format_is)
    (subst (λ G. Differs G (integer_number (signed_integer a.name width s))) (sym b.format_is) (signed_differs a.name b.name width other s a.is_width b.is_width k))
