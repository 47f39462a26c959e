-- Values that mean the same are alike.
use Rattle.std.specs.Prelude.{◌≡◌, ℕ, ℤ, pos, negsuc, nat_eq, Bool, true, false, ◌==◌, List, [], ◌∷◌, length, string_bytes, refl}
use Rattle.std.specs.Bool.{beq}
use Rattle.std.specs.Cmp.Lexicographic.{pointwise, other_text}
use Rattle.std.proofs.Common.{◌∙◌, ap, sym}
use Rattle.std.proofs.lemmas.Bool.{eq-eqb, and_from, true_from_ne_false}
use Rattle.bincode_spec.specs.Meaning.{Meaning, Truth, Number, Character, Bytes, Nothing, Then, Choice, list_meaning}
use Rattle.bincode_lemmas.specs.AllowedLaws.{integer-same}
use Rattle.bincode_shape.specs.declared.shape.Value as values
use Rattle.bincode_shape.specs.declared.shape.Value.{Value, Row_of-Value, end_of-Value, more_of-Value, items-the_row-Value, None', Some'}
use Rattle.bincode_shape.specs.Shapes.{each_passes, meaning, meanings_of}
use Rattle.shape_difference.specs.Alike.{is_nothing, is_same_bool, is_same_char, is_same_text, is_same_natural, is_same_unsigned, is_same_signed, is_same_choice, alike, tests_of}

-- the meaning of a list
abbrev is_row : Meaning → Bool
is_row Nothing = true
is_row (Then m others) = true
is_row m = false

row_is : (ms : List Meaning) → is_row (list_meaning ms) ≡ true
row_is [] = refl
row_is (m ∷ ms) = refl

not_row : (m : Meaning) (ms : List Meaning) → is_row m ≡ false → m ≡ list_meaning ms → ⊥
not_row m ms h e = let k : false ≡ true = sym h ∙ ap is_row e ∙ row_is ms in cc

same_bool : (b c : Bool) → b ≡ c → beq b c ≡ true
same_bool true c e = rw (← e) refl
same_bool false c e = rw (← e) refl

same_text : (xs ys : List ℕ) → xs ≡ ys → pointwise nat_eq xs ys ≡ true
same_text xs ys e = true_from_ne_false (pointwise nat_eq xs ys) (λ h. other_text xs ys (sym h) e)

bool_complete : (b : Bool) (w : Value) → Truth b ≡ meaning w → is_same_bool b w ≡ true
bool_complete b (values.Bool c) e = same_bool b c cc
bool_complete b (values.List' u items) e = absurd (not_row (Truth b) (meanings_of items) refl e)
bool_complete b (values.Optional' None') e = absurd (cc)
bool_complete b (values.Optional' (Some' p part)) e = absurd (cc)
bool_complete b w e = absurd (cc)

char_complete : (c : ℕ) (w : Value) → Character c ≡ meaning w → is_same_char c w ≡ true
char_complete c (values.Char d) e = let k : c ≡ d = cc in eq-eqb c d k
char_complete c (values.List' u items) e = absurd (not_row (Character c) (meanings_of items) refl e)
char_complete c (values.Optional' None') e = absurd (cc)
char_complete c (values.Optional' (Some' p part)) e = absurd (cc)
char_complete c w e = absurd (cc)

text_complete : (bytes : List ℕ) (w : Value) → Bytes bytes ≡ meaning w → is_same_text bytes w ≡ true
text_complete bytes (values.Text t) e = let k : bytes ≡ string_bytes t = cc in same_text bytes (string_bytes t) k
text_complete bytes (values.List' u items) e = absurd (not_row (Bytes bytes) (meanings_of items) refl e)
text_complete bytes (values.Optional' None') e = absurd (cc)
text_complete bytes (values.Optional' (Some' p part)) e = absurd (cc)
text_complete bytes w e = absurd (cc)

natural_complete : (n : ℕ) (z : ℤ) → pos n ≡ z → is_same_natural n z ≡ true
natural_complete n (pos m) e = let k : n ≡ m = cc in eq-eqb n m k
natural_complete n (negsuc m) e = absurd (cc)

unsigned_complete : (n : ℕ) (w : Value) → Number (pos n) ≡ meaning w → is_same_unsigned n w ≡ true
unsigned_complete n (values.Unsigned m) e = let k : n ≡ m = cc in eq-eqb n m k
unsigned_complete n (values.Signed z) e = let k : pos n ≡ z = cc in natural_complete n z k
unsigned_complete n (values.List' u items) e = absurd (not_row (Number (pos n)) (meanings_of items) refl e)
unsigned_complete n (values.Optional' None') e = absurd (cc)
unsigned_complete n (values.Optional' (Some' p part)) e = absurd (cc)
unsigned_complete n w e = absurd (cc)

signed_complete : (z : ℤ) (w : Value) → Number z ≡ meaning w → is_same_signed z w ≡ true
signed_complete z (values.Unsigned n) e = let k : pos n ≡ z = cc in natural_complete n z k
signed_complete z (values.Signed y) e = integer-same z y (Number z) refl e
signed_complete z (values.List' u items) e = absurd (not_row (Number z) (meanings_of items) refl e)
signed_complete z (values.Optional' None') e = absurd (cc)
signed_complete z (values.Optional' (Some' p part)) e = absurd (cc)
signed_complete z w e = absurd (cc)

empty_items : {m : _} → (items : Row_of-Value m) → Nothing ≡ list_meaning (meanings_of items) → (length (items-the_row-Value _ items) == 0) ≡ true
empty_items end_of-Value e = refl
empty_items (more_of-Value item others) e = absurd (cc)

empty_tests : {m : _} → (items : Row_of-Value m) → list_meaning (meanings_of items) ≡ Nothing → (length (tests_of items) == 0) ≡ true
empty_tests end_of-Value e = refl
empty_tests (more_of-Value item others) e = absurd (cc)

nothing_complete : (w : Value) → Nothing ≡ meaning w → is_nothing w ≡ true
nothing_complete values.Unit e = refl
nothing_complete (values.List' u items) e = empty_items items e
nothing_complete (values.Optional' None') e = absurd (cc)
nothing_complete (values.Optional' (Some' p part)) e = absurd (cc)
nothing_complete w e = absurd (cc)

choice_complete : (n : ℕ) (m : Meaning) (empty : Bool) (test : Value → Bool) → (m ≡ Nothing → empty ≡ true) → ((x : Value) → m ≡ meaning x → test x ≡ true) → (w : Value) → Choice n m ≡ meaning w →
    is_same_choice n empty test w ≡ true
choice_complete n m empty test f g (values.Optional' None') e =
    let k : n ≡ 0 = cc in let l : m ≡ Nothing = cc in and_from (n == 0) empty (eq-eqb n 0 k) (f l)
choice_complete n m empty test f g (values.Optional' (Some' p part)) e =
    let k : n ≡ 1 = cc in let l : m ≡ meaning part = cc in and_from (n == 1) (test part) (eq-eqb n 1 k) (g part l)
choice_complete n m empty test f g (values.Choice' i p part) e =
    let k : n ≡ i = cc in let l : m ≡ meaning part = cc in and_from (n == i) (test part) (eq-eqb n i k) (g part l)
choice_complete n m empty test f g (values.List' u items) e = absurd (not_row (Choice n m) (meanings_of items) refl e)
choice_complete n m empty test f g w e = absurd (cc)

mutual
  pub alike_complete : (v w : Value) → meaning v ≡ meaning w → alike v w ≡ true
  alike_complete values.Unit w e = nothing_complete w e
  alike_complete (values.Bool b) w e = bool_complete b w e
  alike_complete (values.Char c) w e = char_complete c w e
  alike_complete (values.Text t) w e = text_complete (string_bytes t) w e
  alike_complete (values.Unsigned n) w e = unsigned_complete n w e
  alike_complete (values.Signed z) w e = signed_complete z w e
  alike_complete (values.List' v items) values.Unit e = empty_tests items e
  alike_complete (values.List' v items) (values.List' u others) e = rows_complete items others e
  alike_complete (values.List' v items) (values.Optional' None') e = absurd (not_row _ (meanings_of items) refl (sym e))
  alike_complete (values.List' v items) (values.Optional' (Some' p part)) e = absurd (not_row _ (meanings_of items) refl (sym e))
  alike_complete (values.List' v items) w e = absurd (not_row _ (meanings_of items) refl (sym e))
  alike_complete (values.Optional' None') w e = choice_complete 0 Nothing true is_nothing (λ k. refl) (λ x k. nothing_complete x k) w e
  alike_complete (values.Optional' (Some' p part)) w e = choice_complete 1 (meaning part) (is_nothing part) (alike part) (λ k. nothing_complete part (sym k)) (λ x k. alike_complete part x k) w e
  alike_complete (values.Choice' n p part) w e = choice_complete n (meaning part) (is_nothing part) (alike part) (λ k. nothing_complete part (sym k)) (λ x k. alike_complete part x k) w e

  rows_complete : {m n : _} → (items : Row_of-Value m) (others : Row_of-Value n) → list_meaning (meanings_of items) ≡ list_meaning (meanings_of others) →
      each_passes (tests_of items) (items-the_row-Value _ others) ≡ true
  rows_complete end_of-Value end_of-Value e = refl
  rows_complete end_of-Value (more_of-Value other others) e = absurd (cc)
  rows_complete (more_of-Value item items) end_of-Value e = absurd (cc)
  rows_complete (more_of-Value item items) (more_of-Value other others) e =
      let k : meaning item ≡ meaning other = cc in
      let l : list_meaning (meanings_of items) ≡ list_meaning (meanings_of others) = cc in
      and_from (alike item other) (each_passes (tests_of items) (items-the_row-Value _ others)) (alike_complete item other k) (rows_complete items others l)
