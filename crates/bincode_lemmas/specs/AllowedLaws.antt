-- What numbers allow, and what wholes allow, from what their parts allow.
use Rattle.std.specs.Prelude.{◌≡◌, ℕ, ◌+◌, ◌<◌, ◌^◌, ℤ, pos, Result, Ok, Err, List, [], ◌∷◌, ◌++◌, length, refl, nat_eq, Bool, true}
use Rattle.std.specs.Ordering.{int_eq}
use Rattle.std.specs.Cmp.{signed_Decides, booleans_Decides}
use Rattle.std.proofs.Math.Bool.{beq}
use Rattle.std.proofs.Common.{sym, ◌∙◌, ap, subst, append-nil, length-append, eq-eqb}
use Rattle.bincode_base.specs.declared.error.IntegerType.{IntegerType}
use Rattle.bincode_base.specs.Setting.{Setting}
use Rattle.bincode_spec.specs.Number.{two_complement, from_two_complement, FitsIn}
use Rattle.bincode_spec.specs.Fault.{Fault}
use Rattle.bincode_spec.specs.Format.{Format, pure, fail, fixed_bytes, step, from_result, ◌>>=◌, map_format}
use Rattle.bincode_spec.specs.Integers.{byte, first_of, number_for, unsigned_integer, signed_integer, unsigned_byte, signed_byte, spelling}
use Rattle.bincode_spec.specs.Integers.{IsWidth}
use Rattle.bincode_lemmas.specs.IntegerLaws.{written-unsigned, unsigned-written, written-signed, signed-written, written-unsigned_byte, unsigned_byte-written, written-signed_byte}
use Rattle.bincode_spec.specs.Meaning.{Meaning, Truth, Number, Nothing, Then, IsTruth, IsNumber, IsNothing, IsThen}
use Rattle.bincode_spec.specs.Words.{natural_number, integer_number, not_zero_of, not_zero_by, truth_of, truth_byte, truth, nothing, first_and}
use Rattle.bincode_lemmas.specs.WordsLaws.{not_zero-passes, not_zero-passed, truth_byte-passes, truth_byte-passed}
use Rattle.bincode_spec.specs.Allowed.{AllowedWord, OneLength, NoneShorter}
use Rattle.bincode_lemmas.specs.Sequences.{Both}

-- a written word whose meaning passes a test is a written word after the test, and conversely
module _ {A B : Type 0} (test : A → Result B Fault) (F : Format A) where
  pub from_result-written : (bytes : List ℕ) (a : A) (b : B) → test a ≡ Ok b → F.Written bytes a → (F >>= λ x. from_result (test x)).Written bytes b
  unfolding ◌>>=◌ pure
  from_result-written bytes a b e w = record { first = bytes; second = []; head = a; bytes_are = sym (append-nil bytes); first_written = w; second_written = rw e (refl, refl) }

  nothing_written : (r : Result B Fault) (bytes : List ℕ) (b : B) → (from_result r).Written bytes b → (bytes ≡ []) × (r ≡ Ok b)
  unfolding pure fail
  nothing_written (Ok c) bytes b w = (w.0, ap Ok (sym w.1))
  nothing_written (Err why) bytes b w = absurd w

  pub written-from_result : (bytes : List ℕ) (b : B) → (F >>= λ x. from_result (test x)).Written bytes b → (a : A) × (test a ≡ Ok b) × F.Written bytes a
  unfolding ◌>>=◌
  written-from_result bytes b w =
      let p = nothing_written (test w.head) w.second b w.second_written in
      let e : bytes ≡ w.first = w.bytes_are ∙ ap (λ z. w.first ++ z) p.0 ∙ append-nil w.first in
      (w.head, p.1, subst (λ z. F.Written z w.head) (sym e) w.first_written)

-- a written word of a format is one of the mapped format, and conversely
pub map-written : {A B : Type 0} (f : A → B) (F : Format A) (bytes : List ℕ) (a : A) → F.Written bytes a → (map_format f F).Written bytes (f a)
map-written f F bytes a w = from_result-written (λ z. Ok (f z)) F bytes a (f a) refl w

pub written-map : {A B : Type 0} (f : A → B) (F : Format A) (bytes : List ℕ) (b : B) → (map_format f F).Written bytes b → (a : A) × (b ≡ f a) × F.Written bytes a
written-map f F bytes b w = let p = written-from_result (λ z. Ok (f z)) F bytes b w in (p.0, cc, p.2)

module _ {A : Type 0} (integer : A → ℤ) (one : (a b : A) → integer a ≡ integer b → a ≡ b) (F : Format A) where
  -- a number allows what is written for it
  pub number-allows : (bytes : List ℕ) (a : A) → F.Written bytes a → AllowedWord (IsNumber (integer a)) (map_format (λ k. Number (integer k)) F) bytes
  number-allows bytes a w = record { meaning = Number (integer a); is_meant = refl; is_written = map-written (λ k. Number (integer k)) F bytes a w }

  pub allowed-number : (bytes : List ℕ) (a : A) → AllowedWord (IsNumber (integer a)) (map_format (λ k. Number (integer k)) F) bytes → F.Written bytes a
  allowed-number bytes a w =
      let p = written-map (λ k. Number (integer k)) F bytes w.meaning w.is_written in
      let e : Number (integer a) ≡ Number (integer p.0) = sym w.is_meant ∙ p.1 in
      let q : a ≡ p.0 = one a p.0 (cc) in
      subst (λ z. F.Written bytes z) (sym q) p.2

pub natural-one : (a b : ℕ) → pos a ≡ pos b → a ≡ b
natural-one a b e = cc

-- an unsigned number allows what is written for it
pub natural-allows : (F : Format ℕ) (bytes : List ℕ) (n : ℕ) → F.Written bytes n → AllowedWord (IsNumber (pos n)) (natural_number F) bytes
natural-allows = number-allows pos natural-one

pub allowed-natural : (F : Format ℕ) (bytes : List ℕ) (n : ℕ) → AllowedWord (IsNumber (pos n)) (natural_number F) bytes → F.Written bytes n
allowed-natural = allowed-number pos natural-one

-- and so does a signed one
pub integral-allows : (F : Format ℤ) (bytes : List ℕ) (z : ℤ) → F.Written bytes z → AllowedWord (IsNumber z) (integer_number F) bytes
integral-allows = number-allows (λ z. z) (λ a b e. e)

pub allowed-integral : (F : Format ℤ) (bytes : List ℕ) (z : ℤ) → AllowedWord (IsNumber z) (integer_number F) bytes → F.Written bytes z
allowed-integral = allowed-number (λ z. z) (λ a b e. e)

-- its spelling
pub unsigned-allows : (name : IntegerType) (width n : ℕ) (s : Setting) → n < 256 ^ width → AllowedWord (IsNumber (pos n)) (natural_number (unsigned_integer name width s)) (spelling s.encoding s.order width n)
unsigned-allows name width n s h = natural-allows (unsigned_integer name width s) (spelling s.encoding s.order width n) n (written-unsigned name width n s h)

pub allowed-unsigned : (name : IntegerType) (width n : ℕ) (s : Setting) (bytes : List ℕ) →
    AllowedWord (IsNumber (pos n)) (natural_number (unsigned_integer name width s)) bytes → bytes ≡ spelling s.encoding s.order width n
allowed-unsigned name width n s bytes a = (unsigned-written name width n s bytes (allowed-natural (unsigned_integer name width s) bytes n a)).1

pub byte-allows : (n : ℕ) → AllowedWord (IsNumber (pos n)) (natural_number unsigned_byte) (n ∷ [])
byte-allows n = natural-allows unsigned_byte (n ∷ []) n (written-unsigned_byte n)

pub allowed-byte : (n : ℕ) (bytes : List ℕ) → AllowedWord (IsNumber (pos n)) (natural_number unsigned_byte) bytes → bytes ≡ n ∷ []
allowed-byte n bytes a = unsigned_byte-written bytes n (allowed-natural unsigned_byte bytes n a)

-- the spelling of the number that stands for it
pub signed-allows : (name : IntegerType) (width : ℕ) (z : ℤ) (s : Setting) → IsWidth width → FitsIn width z →
    AllowedWord (IsNumber z) (integer_number (signed_integer name width s)) (spelling s.encoding s.order width (number_for width s.encoding z))
signed-allows name width z s w h = integral-allows (signed_integer name width s) (spelling s.encoding s.order width (number_for width s.encoding z)) z (written-signed name width z s w h)

pub allowed-signed : (name : IntegerType) (width : ℕ) (z : ℤ) (s : Setting) (bytes : List ℕ) →
    AllowedWord (IsNumber z) (integer_number (signed_integer name width s)) bytes → bytes ≡ spelling s.encoding s.order width (number_for width s.encoding z)
allowed-signed name width z s bytes a = (signed-written name width z s bytes (allowed-integral (signed_integer name width s) bytes z a)).1

pub signed_byte-allows : (z : ℤ) → FitsIn 1 z → AllowedWord (IsNumber z) (integer_number signed_byte) (two_complement 1 z ∷ [])
signed_byte-allows z h = integral-allows signed_byte (two_complement 1 z ∷ []) z (written-signed_byte z h)

-- of numbers above 255 more than one may stand for it
pub allowed-signed_byte : (z : ℤ) (bytes : List ℕ) → AllowedWord (IsNumber z) (integer_number signed_byte) bytes → length bytes ≡ 1
unfolding signed_byte byte fixed_bytes step ◌>>=◌
allowed-signed_byte z bytes a =
    let u = allowed-integral signed_byte bytes z a in
    let e : bytes ≡ u.second = u.bytes_are ∙ ap (λ x. x ++ u.second) u.first_written in
    let p = written-map (from_two_complement 1) byte u.second z u.second_written in
    let q = written-map first_of (fixed_bytes 1) u.second p.0 p.2 in
    ap length e ∙ q.2.0

-- a `bool` allows its byte
pub truth-allows : (v : Bool) → AllowedWord (IsTruth v) truth (truth_byte v ∷ [])
truth-allows v = record {
  meaning = Truth v;
  is_meant = refl;
  is_written = from_result-written truth_of unsigned_byte (truth_byte v ∷ []) (truth_byte v) (Truth v) (truth_byte-passes v) (written-unsigned_byte (truth_byte v));
}

pub allowed-truth : (v : Bool) (bytes : List ℕ) → AllowedWord (IsTruth v) truth bytes → bytes ≡ truth_byte v ∷ []
allowed-truth v bytes a =
    let p = written-from_result truth_of unsigned_byte bytes a.meaning a.is_written in
    let q : p.0 ≡ truth_byte v = truth_byte-passed p.0 v (p.1 ∙ ap Ok a.is_meant) in
    unsigned_byte-written bytes p.0 p.2 ∙ ap (λ b. b ∷ []) q

module _ {A : Type 0} (integer : A → ℤ) (one : (a b : A) → integer a ≡ integer b → a ≡ b) (size : A → ℕ) (name : IntegerType) (F : Format A) where
  -- a number that is not 0 allows what it does as a number
  pub not_zero-allows : (bytes : List ℕ) (a : A) → 0 < size a → AllowedWord (IsNumber (integer a)) (map_format (λ k. Number (integer k)) F) bytes →
      AllowedWord (IsNumber (integer a)) (map_format (λ k. Number (integer k)) (not_zero_by size name F)) bytes
  not_zero-allows bytes a h w =
      number-allows integer one (not_zero_by size name F) bytes a
      (from_result-written (λ x. not_zero_of name (size x) x) F bytes a a (not_zero-passes name (size a) a h) (allowed-number integer one F bytes a w))

  pub allowed-not_zero : (bytes : List ℕ) (a : A) →
      AllowedWord (IsNumber (integer a)) (map_format (λ k. Number (integer k)) (not_zero_by size name F)) bytes →
      AllowedWord (IsNumber (integer a)) (map_format (λ k. Number (integer k)) F) bytes
  allowed-not_zero bytes a w =
      let p = written-from_result (λ x. not_zero_of name (size x) x) F bytes a (allowed-number integer one (not_zero_by size name F) bytes a w) in
      number-allows integer one F bytes a (subst (λ x. F.Written bytes x) (not_zero-passed name (size p.0) p.0 a p.1) p.2)

-- more meanings allow more
pub more-allowed : {P Q : Meaning → Type 0} {F : Format Meaning} → ((m : Meaning) → P m → Q m) → (bytes : List ℕ) → AllowedWord P F bytes → AllowedWord Q F bytes
more-allowed more bytes w = record { meaning = w.meaning; is_meant = more w.meaning w.is_meant; is_written = w.is_written }

-- with fewer meanings none is shorter either
pub fewer-none_shorter : {P Q P' Q' : Meaning → Type 0} {F : Format Meaning} → ((m : Meaning) → P m → P' m) → ((m : Meaning) → Q m → Q' m) → NoneShorter P' Q' F → NoneShorter P Q F
fewer-none_shorter p q least written bytes m s w h u e = least written bytes m s (more-allowed p written w) h u (q m e)

-- one word has one length
pub alone-one_length : (Allowed : List ℕ → Type 0) (word : List ℕ) → ((bytes : List ℕ) → Allowed bytes → bytes ≡ word) → OneLength Allowed
alone-one_length Allowed word only x y a b = ap length (only x a ∙ sym (only y b))

module _ (P Q : Meaning → Type 0) (F : Format Meaning) (others : Format Meaning) where
  -- a tuple allows what its first part allows, then what the others do
  pub tuple-allows : (bytes : List ℕ) → Both (AllowedWord P F) (AllowedWord Q others) bytes → AllowedWord (IsThen P Q) (first_and F others) bytes
  unfolding first_and ◌>>=◌
  tuple-allows bytes b = record {
    meaning = Then b.3.meaning b.4.meaning;
    is_meant = record { first = b.3.meaning; others = b.4.meaning; meaning_is = refl; is_first = b.3.is_meant; are_others = b.4.is_meant };
    is_written = record {
      first = b.0;
      second = b.1;
      head = b.3.meaning;
      bytes_are = b.2;
      first_written = b.3.is_written;
      second_written = map-written
          (Then b.3.meaning) others b.1 b.4.meaning b.4.is_written;
    };
  }

  pub allowed-tuple : (bytes : List ℕ) → AllowedWord (IsThen P Q) (first_and F others) bytes → Both (AllowedWord P F) (AllowedWord Q others) bytes
  unfolding first_and ◌>>=◌
  allowed-tuple bytes w =
      let u = w.is_written in
      let t = written-map (Then u.head) others u.second w.meaning u.second_written in
      let m = w.is_meant in
      let e : Then m.first m.others ≡ Then u.head t.0 = sym m.meaning_is ∙ t.1 in
      let a : m.first ≡ u.head = cc in
      let b : m.others ≡ t.0 = cc in
      let p : AllowedWord P F u.first = record { meaning = u.head; is_meant = subst P a m.is_first; is_written = u.first_written } in
      let q : AllowedWord Q others u.second = record { meaning = t.0; is_meant = subst Q b m.are_others; is_written = t.2 } in
      (u.first, u.second, u.bytes_are, p, q)

-- the empty tuple allows the empty word
pub nothing-allows : AllowedWord IsNothing nothing []
unfolding nothing pure
nothing-allows = record { meaning = Nothing; is_meant = refl; is_written = (refl, refl) }

pub allowed-nothing : (bytes : List ℕ) → AllowedWord IsNothing nothing bytes → bytes ≡ []
unfolding nothing pure
allowed-nothing bytes w = w.is_written.0

-- a tuple of one allows what its part does
pub one-allows : (P : Meaning → Type 0) (F : Format Meaning) (bytes : List ℕ) → AllowedWord P F bytes → AllowedWord (IsThen P IsNothing) (first_and F nothing) bytes
one-allows P F bytes w = tuple-allows P IsNothing F nothing bytes (bytes, [], sym (append-nil bytes), w, nothing-allows)

pub allowed-one : (P : Meaning → Type 0) (F : Format Meaning) (bytes : List ℕ) → AllowedWord (IsThen P IsNothing) (first_and F nothing) bytes → AllowedWord P F bytes
allowed-one P F bytes w =
    let b = allowed-tuple P IsNothing F nothing bytes w in
    let e : bytes ≡ b.0 = b.2 ∙ ap (λ z. b.0 ++ z) (allowed-nothing b.1 b.4) ∙ append-nil b.0 in
    subst (AllowedWord P F) (sym e) b.3

module _ (P Q : Meaning → Type 0) (F G : Format Meaning) where
  -- a pair allows what its parts allow in turn
  pub pair-allows : (bytes : List ℕ) → Both (AllowedWord P F) (AllowedWord Q G) bytes → AllowedWord (IsThen P (IsThen Q IsNothing)) (first_and F (first_and G nothing)) bytes
  pair-allows bytes b = tuple-allows P (IsThen Q IsNothing) F (first_and G nothing) bytes (b.0, b.1, b.2, b.3, one-allows Q G b.1 b.4)

  pub allowed-pair : (bytes : List ℕ) → AllowedWord (IsThen P (IsThen Q IsNothing)) (first_and F (first_and G nothing)) bytes → Both (AllowedWord P F) (AllowedWord Q G) bytes
  allowed-pair bytes w = let b = allowed-tuple P (IsThen Q IsNothing) F (first_and G nothing) bytes w in (b.0, b.1, b.2, b.3, allowed-one Q G b.1 b.4)

-- two parts of one length each are a whole of one length
pub both-one_length : (A B : List ℕ → Type 0) → OneLength A → OneLength B → OneLength (Both A B)
both-one_length A B a b x y p q =
    ap length p.2 ∙ length-append p.0 p.1
    ∙ ap (λ k. k + length p.1) (a p.0 q.0 p.3 q.3)
    ∙ ap (λ k. length q.0 + k) (b p.1 q.1 p.4 q.4)
    ∙ sym (length-append q.0 q.1) ∙ sym (ap length q.2)

-- words among words of one length have one length
pub same-one_length : (A B : List ℕ → Type 0) → ((bytes : List ℕ) → B bytes → A bytes) → OneLength A → OneLength B
same-one_length A B from a x y p q = a x y (from x p) (from y q)

-- numbers of one meaning are equal
pub number-same : (v w : ℕ) (m : Meaning) → IsNumber (pos v) m → IsNumber (pos w) m → nat_eq v w ≡ true
number-same v w m a b =
    let e : Number (pos v) ≡ Number (pos w) = sym a ∙ b in
    let q : v ≡ w = cc in
    eq-eqb v w q

pub integer-same : (v w : ℤ) (m : Meaning) → IsNumber v m → IsNumber w m → int_eq v w ≡ true
integer-same v w m a b = let e : Number v ≡ Number w = sym a ∙ b in (signed_Decides v w).1 (cc)

-- truth values of one meaning are equal
pub truth-same : (v w : Bool) (m : Meaning) → IsTruth v m → IsTruth w m → beq v w ≡ true
truth-same v w m a b = let e : Truth v ≡ Truth w = sym a ∙ b in (booleans_Decides v w).1 (cc)
