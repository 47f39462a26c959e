-- No word is longer than one and a half times what it charges, and each container claims something for an element: so a
-- limit bounds both.
use Rattle.std.specs.Prelude.{◌≡◌, ℕ, zero, suc, ◌+◌, ◌-◌, ◌*◌, ◌/◌, ◌≤◌, List, [], ◌∷◌, ◌++◌, refl, Option, Some, None, Result, Ok, Err, nat_lt, nat_le, length, Bool, true, false, if◌then◌else◌, ◌==◌, ◌&&◌, position}
use Rattle.std.proofs.Common.{sym, ◌∙◌, ap, subst, arith, append-nil}
use Rattle.std.proofs.Common.{length-append}
use Rattle.std.proofs.Math.Nat.{mul-le-mul_left}
use Rattle.std.proofs.lemmas.Bool.{leb-true, eqb-true}
use Rattle.bincode_base.specs.Setting.{Setting}
use Rattle.bincode_base.specs.declared.config.Endianness.{Endianness}
use Rattle.bincode_base.specs.declared.config.IntEncoding.{IntEncoding}
use Rattle.bincode_base.specs.declared.config.IntEncoding.TheVariants.{Fixed, Variable}
use Rattle.bincode_base.specs.declared.error.IntegerType.{IntegerType}
use Rattle.bincode_base.specs.declared.error.IntegerType.TheVariants as integers
use Rattle.bincode_spec.specs.Answer.{after_claim, on_some, after_step, charge_after_steps}
use Rattle.bincode_spec.specs.Fault.{Fault}
use Rattle.bincode_spec.specs.Charge.{Step, Charge, Reserve, Release, charged_bytes, charge_after, StaysWithin}
use Rattle.bincode_spec.specs.Format.{Format, pure, fail, fixed_bytes, step, ◌>>=◌, without_count, written_as, from_result, map_format, charge_then, elements, sequence}
use Rattle.bincode_spec.specs.Integers.{digits, byte, first_of, FirstByte, Itself, Before, TooWide, first_byte, number_after, varint, number_by, unsigned_tag, signed_tag}
use Rattle.bincode_spec.specs.Integers.{unsigned_integer, signed_integer, unsigned_byte, signed_byte, integer_by}
use Rattle.bincode_spec.specs.Layers.Laws.{IsLawful, IsBalanced}
use Rattle.bincode_spec.specs.Meaning.{Meaning, Bytes, Then, list_meaning}
use Rattle.bincode_spec.specs.Octets.{octets}
use Rattle.bincode_spec.specs.Number.{number_of, from_two_complement}
use Rattle.bincode_spec.specs.Room.{EachContainer, elements_after, IsWithinBounds}
use Rattle.bincode_spec.specs.Words.{Variant, if_picked, after_tag, tag_then_part, len, array, list, length_prefixed, text, text_of, without_nul, without_nul_of, character, after_char, rest_of_char, char_width, char_of, first_and, nothing, duration, duration_of, seconds_and_nanos}
use Rattle.bincode_lemmas.specs.AnswerLaws.{stays-after, counted_after}
use Rattle.bincode_lemmas.specs.Balance.{full_append, balanced-word}

-- words and their steps

each_append : (P : ℕ → ℕ → Type 0) (s t : List Step) → EachContainer P s → EachContainer P t → EachContainer P (s ++ t)
each_append P [] t h k = k
each_append P ((Charge n) ∷ s) t h k = each_append P s t h k
each_append P ((Reserve n share) ∷ s) t h k = (h.0, each_append P s t h.1 k)
each_append P ((Release n) ∷ s) t h k = each_append P s t h k

pub record IsCharged (word : List ℕ) (steps : List Step) : Type 0 where
  pub spans : length word * 2 ≤ charged_bytes steps * 3
  pub claims : EachContainer (λ n share. 1 ≤ share) steps

charged_append : (x y : List ℕ) (s t : List Step) → IsCharged x s → IsCharged y t → IsCharged (x ++ y) (s ++ t)
charged_append x y s t f g = record {
  spans = let a = f.spans in let b = g.spans in omega (arith, length-append x y, full_append s t);
  claims = each_append _ s t f.claims g.claims;
}

-- what each word of a format keeps
pub record ChargesEnough {A : Type 0} (F : Format A) : Type 0 where
  pub charges_enough : (word : List ℕ) (m : A) (s : List Step) → F.Word word m s → IsCharged word s

empty_charged : (word : List ℕ) (s : List Step) → word ≡ [] → s ≡ [] → IsCharged word s
empty_charged word s e f = subst (λ w. IsCharged w s) (sym e) (subst (λ t. IsCharged [] t) (sym f) (record { spans = omega arith; claims = tt }))

pure_charged : {A : Type 0} (a : A) → ChargesEnough (pure a)
unfolding pure
pure_charged a = record { charges_enough = λ word m s w. empty_charged word s w.0 w.2 }

fail_charged : (A : Type 0) (why : Fault) → ChargesEnough (fail {A = A} why)
unfolding fail
fail_charged A why = record { charges_enough = λ word m s w. absurd w }

from_result_charged : {A : Type 0} (r : Result A Fault) → ChargesEnough (from_result r)
from_result_charged (Ok a) = pure_charged a
from_result_charged (Err why) = fail_charged _ why

step_charged : (x : Step) → IsCharged [] (x ∷ []) → ChargesEnough (step x)
unfolding step
step_charged x h = record { charges_enough = λ word m s w. subst (λ v. IsCharged v s) (sym w.0) (subst (λ t. IsCharged [] t) (sym w.1) h) }

pub rewritten-charged : {A : Type 0} (Chosen : List ℕ → A → Type 0) (F : Format A) → ChargesEnough F → ChargesEnough (written_as Chosen F)
unfolding written_as
rewritten-charged Chosen F f = record { charges_enough = f.charges_enough }

without_count_charged : {A : Type 0} (F : Format A) → ChargesEnough F → ChargesEnough (without_count F)
unfolding without_count
without_count_charged F f = record { charges_enough = f.charges_enough }

turn_charged : {A B : Type 0} (F : Format A) (G : A → Format B) → ChargesEnough F → ((a : A) → ChargesEnough (G a)) → ChargesEnough (F >>= G)
unfolding ◌>>=◌
turn_charged F G f g = record {
  charges_enough = λ word m s w.
      subst (λ v. IsCharged v s) (sym w.bytes_are) (subst (λ t. IsCharged (w.first ++ w.second) t) (sym w.steps_are)
      (charged_append w.first w.second w.first_steps w.second_steps (f.charges_enough w.first w.head w.first_steps w.first_word) ((g w.head).charges_enough w.second m w.second_steps w.second_word)));
}

pub map-charged : {A B : Type 0} (f : A → B) (F : Format A) → ChargesEnough F → ChargesEnough (map_format f F)
map-charged f F h = turn_charged F (λ a. pure (f a)) h (λ a. pure_charged (f a))

pub test-charged : {A B : Type 0} (F : Format A) (test : A → Result B Fault) → ChargesEnough F → ChargesEnough (F >>= λ a. from_result (test a))
test-charged F test h = turn_charged F (λ a. from_result (test a)) h (λ a. from_result_charged (test a))

-- words of at most k bytes, without steps

record Short (n : ℕ) {A : Type 0} (F : Format A) : Type 0 where
  bytes : (word : List ℕ) (m : A) (s : List Step) → F.Word word m s → length word ≤ n
  free : (word : List ℕ) (m : A) (s : List Step) → F.Word word m s → s ≡ []

pure_short : {A : Type 0} (n : ℕ) (a : A) → Short n (pure a)
unfolding pure
pure_short n a = record { bytes = λ word m s w. let e = ap length w.0 in omega arith; free = λ word m s w. w.2 }

fail_short : (A : Type 0) (n : ℕ) (why : Fault) → Short n (fail {A = A} why)
unfolding fail
fail_short A n why = record { bytes = λ word m s w. absurd w; free = λ word m s w. absurd w }

from_result_short : {A : Type 0} (n : ℕ) (r : Result A Fault) → Short n (from_result r)
from_result_short n (Ok a) = pure_short n a
from_result_short n (Err why) = fail_short _ n why

fixed_bytes_short : (n : ℕ) → Short n (fixed_bytes n)
unfolding fixed_bytes
fixed_bytes_short n = record { bytes = λ word m s w. let e = w.0 in omega arith; free = λ word m s w. w.2 }

rewritten_short : {A : Type 0} (n : ℕ) (Chosen : List ℕ → A → Type 0) (F : Format A) → Short n F → Short n (written_as Chosen F)
unfolding written_as
rewritten_short n Chosen F f = record { bytes = f.bytes; free = f.free }

without_count_short : {A : Type 0} (n : ℕ) (F : Format A) → Short n F → Short n (without_count F)
unfolding without_count
without_count_short n F f = record { bytes = f.bytes; free = f.free }

turn_short : {A B : Type 0} (n k most : ℕ) (F : Format A) (G : A → Format B) → n + k ≤ most → Short n F → ((a : A) → Short k (G a)) → Short most (F >>= G)
unfolding ◌>>=◌
turn_short n k most F G h f g = record {
  bytes = λ word m s w.
      let a = f.bytes w.first w.head w.first_steps w.first_word in
      let b = (g w.head).bytes w.second m w.second_steps w.second_word in
      let e = ap length w.bytes_are in
      omega (arith, length-append w.first w.second);
  free = λ word m s w.
      w.steps_are ∙ ap (λ t. t ++ w.second_steps) (f.free w.first w.head w.first_steps w.first_word) ∙ (g w.head).free w.second m w.second_steps w.second_word;
}

map_short : {A B : Type 0} (n : ℕ) (f : A → B) (F : Format A) → Short n F → Short n (map_format f F)
map_short n f F h = turn_short n 0 n F (λ a. pure (f a)) (omega arith) h (λ a. pure_short 0 (f a))

charged_once : (n k : ℕ) (word : List ℕ) (s : List Step) → k * 2 ≤ n * 3 → length word ≤ k → s ≡ [] → IsCharged word (Charge n ∷ s)
charged_once n k word s h l e = subst (λ t. IsCharged word (Charge n ∷ t)) (sym e) (record { spans = omega arith; claims = tt })

-- a charge that covers two thirds of the bytes
charge_charged : {A : Type 0} (n k : ℕ) (F : Format A) → k * 2 ≤ n * 3 → Short k F → ChargesEnough (charge_then n F)
unfolding step ◌>>=◌
charge_charged n k F h f = record {
  charges_enough = λ word m s w.
      let e : word ≡ w.second = w.bytes_are ∙ ap (λ z. z ++ w.second) w.first_word.0 in
      let i : s ≡ Charge n ∷ w.second_steps = w.steps_are ∙ ap (λ z. z ++ w.second_steps) w.first_word.1 in
      subst (λ v. IsCharged v s) (sym e) (subst (λ t. IsCharged w.second t) (sym i)
      (charged_once n k w.second w.second_steps h (f.bytes w.second m w.second_steps w.second_word) (f.free w.second m w.second_steps w.second_word)));
}

-- numbers

digits_short : (order : Endianness) (width : ℕ) → Short width (digits order width)
unfolding digits
digits_short order width = rewritten_short width _ _ (map_short width (number_of order) (fixed_bytes width) (fixed_bytes_short width))

byte_short : Short 1 byte
unfolding byte
byte_short = map_short 1 first_of (fixed_bytes 1) (fixed_bytes_short 1)

-- the bytes after a tag fit the width
abbrev FitsAfter : ℕ → FirstByte → Type 0
FitsAfter width Itself = Unit {0}
FitsAfter width (Before n) = n ≤ width
FitsAfter width TooWide = Unit {0}

fits_by : (width : ℕ) (small two four eight sixteen w4 w8 w16 : Bool) → 2 ≤ width → (w4 ≡ true → 4 ≤ width) → (w8 ≡ true → 8 ≤ width) → (w16 ≡ true → 16 ≤ width) →
    FitsAfter width (if small then Itself else if two then Before 2 else if four && w4 then Before 4 else if eight && w8 then Before 8 else if sixteen && w16 then Before 16 else TooWide)
fits_by width true two four eight sixteen w4 w8 w16 h a b c = tt
fits_by width false true four eight sixteen w4 w8 w16 h a b c = h
fits_by width false false true eight sixteen true w8 w16 h a b c = a refl
fits_by width false false true true sixteen false true w16 h a b c = b refl
fits_by width false false true true true false false true h a b c = c refl
fits_by width false false true true true false false false h a b c = tt
fits_by width false false true true false false false w16 h a b c = tt
fits_by width false false true false true false w8 true h a b c = c refl
fits_by width false false true false true false w8 false h a b c = tt
fits_by width false false true false false false w8 w16 h a b c = tt
fits_by width false false false true sixteen w4 true w16 h a b c = b refl
fits_by width false false false true true w4 false true h a b c = c refl
fits_by width false false false true true w4 false false h a b c = tt
fits_by width false false false true false w4 false w16 h a b c = tt
fits_by width false false false false true w4 w8 true h a b c = c refl
fits_by width false false false false true w4 w8 false h a b c = tt
fits_by width false false false false false w4 w8 w16 h a b c = tt

first_fits : (width first : ℕ) → 2 ≤ width → FitsAfter width (first_byte width first)
first_fits width first h =
    fits_by width (nat_le first 250) (first == 251) (first == 252) (first == 253) (first == 254) (nat_le 4 width) (nat_le 8 width) (nat_le 16 width) h (leb-true 4 width) (leb-true 8 width) (leb-true 16 width)

longer_short : {A : Type 0} (n k : ℕ) (F : Format A) → n ≤ k → Short n F → Short k F
longer_short n k F h f = record { bytes = λ word m s w. let a = f.bytes word m s w in omega arith; free = f.free }

after_short : (order : Endianness) (why : Fault) (width first : ℕ) (b : FirstByte) → FitsAfter width b → Short width (number_after order why first b)
after_short order why width first Itself h = pure_short width first
after_short order why width first (Before n) h = longer_short n width _ h (digits_short order n)
after_short order why width first TooWide h = fail_short _ width why

varint_short : (tags : ℕ → IntegerType) (name : IntegerType) (order : Endianness) (width : ℕ) → 2 ≤ width → Short (suc width) (varint tags name order width)
unfolding varint
varint_short tags name order width h =
    rewritten_short (suc width) _ _ (turn_short 1 width (suc width) byte (λ first. number_after order _ first (first_byte width first)) (omega arith) byte_short
    (λ first. after_short order _ width first (first_byte width first) (first_fits width first h)))

number_short : (tags : ℕ → IntegerType) (name : IntegerType) (order : Endianness) (width : ℕ) (e : IntEncoding) → 2 ≤ width → Short (suc width) (number_by tags name order width e)
number_short tags name order width Fixed h = longer_short width (suc width) _ (omega arith) (digits_short order width)
number_short tags name order width Variable h = varint_short tags name order width h

pub unsigned-charged : (name : IntegerType) (width : ℕ) (s : Setting) → 2 ≤ width → ChargesEnough (unsigned_integer name width s)
unfolding unsigned_integer
unsigned-charged name width s h = charge_charged width (suc width) _ (omega arith) (number_short unsigned_tag name s.order width s.encoding h)

pub signed-charged : (name : IntegerType) (width : ℕ) (s : Setting) → 2 ≤ width → ChargesEnough (signed_integer name width s)
unfolding signed_integer
signed-charged name width s h = charge_charged width (suc width) _ (omega arith) (map_short (suc width) (integer_by width s.encoding) _ (number_short signed_tag name s.order width s.encoding h))

pub unsigned_byte-charged : ChargesEnough unsigned_byte
unfolding unsigned_byte
unsigned_byte-charged = charge_charged 1 1 byte (omega arith) byte_short

pub signed_byte-charged : ChargesEnough signed_byte
unfolding signed_byte
signed_byte-charged = charge_charged 1 1 _ (omega arith) (map_short 1 (from_two_complement 1) byte byte_short)

-- characters

width_by : (one none two three four : Bool) (width : ℕ) → (if one then Some 1 else if none then None else if two then Some 2 else if three then Some 3 else if four then Some 4 else None) ≡ Some width → 1 ≤ width
width_by true none two three four width e = let p : 1 ≡ width = cc in omega arith
width_by false true two three four width e = absurd (cc)
width_by false false true three four width e = let p : 2 ≡ width = cc in omega arith
width_by false false false true four width e = let p : 3 ≡ width = cc in omega arith
width_by false false false false true width e = let p : 4 ≡ width = cc in omega arith
width_by false false false false false width e = absurd (cc)

char_rest : (first : ℕ) (width : ℕ) → Short (width - 1) (rest_of_char first width)
char_rest first width =
    turn_short (width - 1) 0 (width - 1) (fixed_bytes (width - 1)) (λ bytes. from_result (char_of (first ∷ bytes))) (omega arith) (fixed_bytes_short (width - 1)) (λ bytes. from_result_short 0 (char_of (first ∷ bytes)))

char_after : (first : ℕ) (found : Option ℕ) → ((width : ℕ) → found ≡ Some width → 1 ≤ width) → (head word : List ℕ) (m : Meaning) (s : List Step) → length head ≤ 1 → (after_char first found).Word word m s → IsCharged (head ++ word) s
unfolding fail step ◌>>=◌
char_after first None h head word m s l w = absurd w
char_after first (Some width) h head word m s l w =
    let k = h width refl in
    let r = char_rest first width in
    let e : word ≡ w.second = w.bytes_are ∙ ap (λ z. z ++ w.second) w.first_word.0 in
    let i : s ≡ Charge width ∷ w.second_steps = w.steps_are ∙ ap (λ z. z ++ w.second_steps) w.first_word.1 in
    let b = r.bytes w.second m w.second_steps w.second_word in
    let d = ap length e in
    subst (λ t. IsCharged (head ++ word) t) (sym i) (charged_once width width (head ++ word) w.second_steps (omega arith) (omega (arith, length-append head word)) (r.free w.second m w.second_steps w.second_word))

pub character-charged : ChargesEnough character
unfolding ◌>>=◌
character-charged = record {
  charges_enough = λ word m s w.
      let f = byte_short.free w.first w.head w.first_steps w.first_word in
      let l = byte_short.bytes w.first w.head w.first_steps w.first_word in
      let e : s ≡ w.second_steps = w.steps_are ∙ ap (λ z. z ++ w.second_steps) f in
      subst (λ v. IsCharged v s) (sym w.bytes_are) (subst (λ t. IsCharged (w.first ++ w.second) t) (sym e)
      (char_after w.head (char_width w.head) (width_by (nat_lt w.head 128) (nat_lt w.head 194) (nat_lt w.head 224) (nat_lt w.head 240) (nat_lt w.head 245)) w.first w.second m w.second_steps l w.second_word));
}

-- parts in order, and elements

pub nothing-charged : ChargesEnough nothing
unfolding nothing
nothing-charged = pure_charged _

pub then-charged : {F others : Format Meaning} → ChargesEnough F → ChargesEnough others → ChargesEnough (first_and F others)
unfolding first_and
then-charged {F} {others} f g = turn_charged F (λ m. map_format (Then m) others) f (λ m. map-charged (Then m) others g)

module _ {A : Type 0} (share : ℕ) (F : Format A) (some : 1 ≤ share) (f : ChargesEnough F) where
  elements_charged : (n : ℕ) → ChargesEnough (elements n share F)
  elements_charged zero = pure_charged []
  elements_charged (suc n) =
      turn_charged (step (Release share)) (λ _. without_count F >>= λ a. map_format (λ others. a ∷ others) (elements n share F)) (step_charged (Release share) (record { spans = omega arith; claims = tt }))
      (λ _. turn_charged (without_count F) (λ a. map_format (λ others. a ∷ others) (elements n share F)) (without_count_charged F f) (λ a. map-charged (λ others. a ∷ others) (elements n share F) (elements_charged n)))

  sequence_charged : (n : ℕ) → ChargesEnough (sequence n share F)
  sequence_charged n = turn_charged (step (Reserve n share)) (λ _. elements n share F) (step_charged (Reserve n share) (record { spans = omega arith; claims = (some, tt) })) (λ _. elements_charged n)

pub array-charged : (n share : ℕ) (F : Format Meaning) → 1 ≤ share → ChargesEnough F → ChargesEnough (array n share F)
array-charged n share F h f = map-charged list_meaning (sequence n share F) (sequence_charged share F h f n)

pub list-charged : (s : Setting) (share : ℕ) (F : Format Meaning) → 1 ≤ share → ChargesEnough F → ChargesEnough (list s share F)
list-charged s share F h f = turn_charged (len s) (λ n. array n share F) (unsigned-charged integers.U64 8 s (omega arith)) (λ n. array-charged n share F h f)

pub length_prefixed-charged : (s : Setting) → ChargesEnough (length_prefixed s)
length_prefixed-charged s =
    turn_charged (len s) (λ n. charge_then n (without_count (fixed_bytes n))) (unsigned-charged integers.U64 8 s (omega arith)) (λ n. charge_charged n n (without_count (fixed_bytes n)) (omega arith) (without_count_short n (fixed_bytes n) (fixed_bytes_short n)))

pub text-charged : (s : Setting) → ChargesEnough (text s)
text-charged s = test-charged (length_prefixed s) text_of (length_prefixed-charged s)

-- bytes without a zero
pub c_string-charged : (s : Setting) → ChargesEnough (without_nul s)
c_string-charged s = test-charged (length_prefixed s) (λ bytes. without_nul_of bytes (position (λ b. b == 0) bytes)) (length_prefixed-charged s)

-- octets
pub octets-charged : (n : ℕ) → ChargesEnough (octets n)
octets-charged n = map-charged Bytes (charge_then n (fixed_bytes n)) (charge_charged n n (fixed_bytes n) (omega arith) (fixed_bytes_short n))

-- choices

pub picked-charged : (picked : Bool) (F G : Format Meaning) → ChargesEnough F → ChargesEnough G → ChargesEnough (if_picked picked F G)
picked-charged true F G f g = f
picked-charged false F G f g = g

pub fail-charged : (why : Fault) → ChargesEnough (fail {A = Meaning} why)
fail-charged why = fail_charged Meaning why

pub chosen-charged : (tags : Setting → Format ℕ) (variants : List Variant) (s : Setting) → ChargesEnough (tags s) → ((found : ℕ) → ChargesEnough (after_tag variants s found)) → ChargesEnough (tag_then_part tags variants s)
unfolding tag_then_part
chosen-charged tags variants s t g = turn_charged (tags s) (after_tag variants s) t g

-- a duration
pub duration-charged : (s : Setting) → ChargesEnough (duration s)
duration-charged s =
    rewritten-charged _ _ (test-charged (seconds_and_nanos s) (λ parts. duration_of parts.0 parts.1)
    (turn_charged (unsigned_integer integers.U64 8 s) (λ seconds. map_format (λ nanos. (seconds, nanos)) (unsigned_integer integers.U32 4 s)) (unsigned-charged integers.U64 8 s (omega arith))
    (λ seconds. map-charged (λ nanos. (seconds, nanos)) (unsigned_integer integers.U32 4 s) (unsigned-charged integers.U32 4 s (omega arith)))))

-- what a limit bounds

-- a claim that succeeds is within the limit
claim_within : (limit charge n after : ℕ) → after_claim (Some limit) charge n ≡ Some after → charge + n ≤ limit
claim_within limit charge n after e = leb-true (charge + n) limit (by (nat_le (charge + n) limit) e) where
  by : (test : Bool) → (if test then Some (charge + n) else None) ≡ Some after → test ≡ true
  by true e = refl
  by false e = absurd (cc)

after_some : (o : Option ℕ) (next : ℕ → Option ℕ) (last : ℕ) → on_some o next ≡ Some last → (after : ℕ) × (o ≡ Some after) × (next after ≡ Some last)
after_some (Some n) next last e = (n, refl, e)
after_some None next last e = absurd (cc)

rooms_within : (limit charge last : ℕ) (s : List Step) → charge_after_steps (Some limit) charge s ≡ Some last → EachContainer (λ n share. n * share ≤ limit) s
rooms_within limit charge last [] e = tt
rooms_within limit charge last ((Charge n) ∷ s) e = let p = after_some (after_step (Some limit) charge (Charge n)) _ last e in rooms_within limit p.0 last s p.2
rooms_within limit charge last ((Reserve n share) ∷ s) e =
    let p = after_some (after_step (Some limit) charge (Reserve n share)) _ last e in
    let h = claim_within limit charge (n * share) p.0 p.1 in
    (omega arith, rooms_within limit p.0 last s p.2)
rooms_within limit charge last ((Release n) ∷ s) e = rooms_within limit (charge - n) last s e

count_within : (n share limit : ℕ) → 1 ≤ share → n * share ≤ limit → n ≤ limit
count_within n zero limit h k = absurd (none h) where
  none : 1 ≤ 0 → ⊥
  none h = omega arith
count_within n (suc share) limit h k = let e : n * suc share ≡ n * share + n = omega arith in omega arith

counts_within : (limit : ℕ) (s : List Step) → EachContainer (λ n share. 1 ≤ share) s → EachContainer (λ n share. n * share ≤ limit) s → EachContainer (λ n share. n ≤ limit) s
counts_within limit [] h k = tt
counts_within limit ((Charge n) ∷ s) h k = counts_within limit s h k
counts_within limit ((Reserve n share) ∷ s) h k = (count_within n share limit h.0 k.0, counts_within limit s h.1 k.1)
counts_within limit ((Release n) ∷ s) h k = counts_within limit s h k

counts_by : (limit n last others k rest : ℕ) (test : Bool) → (test ≡ true → last ≡ 8) → n ≤ limit → others ≤ limit * k → 8 * k ≤ rest →
    (j : ℕ) × ((if test then n else 0) + others ≤ limit * j) × (8 * j ≤ last + rest)
counts_by limit n last others k rest true e h i l = let p = e refl in let q : limit * suc k ≡ limit * k + limit = omega arith in (suc k, omega arith, omega arith)
counts_by limit n last others k rest false e h i l = (k, omega arith, omega arith)

-- each length is charged
lengths_within : (limit last : ℕ) (s : List Step) → EachContainer (λ n share. n ≤ limit) s → (k : ℕ) × (elements_after last s ≤ limit * k) × (8 * k ≤ last + charged_bytes s)
lengths_within limit last [] h = (0, omega arith, omega arith)
lengths_within limit last ((Charge n) ∷ s) h = let p = lengths_within limit n s h in let a = p.1 in let b = p.2 in (p.0, a, omega arith)
lengths_within limit last ((Reserve n share) ∷ s) h =
    let p = lengths_within limit 0 s h.1 in
    let a = p.1 in
    let b = p.2 in
    let c : 8 * p.0 ≤ charged_bytes s = omega arith in
    counts_by limit n last (elements_after 0 s) p.0 (charged_bytes s) (last == 8) (eqb-true last 8) h.0 a c
lengths_within limit last ((Release n) ∷ s) h = let p = lengths_within limit 0 s h in let a = p.1 in let b = p.2 in (p.0, a, omega arith)

-- A word within a limit is bounded by it.
pub within-bounded : {A : Type 0} (F : Format A) → IsLawful F → IsBalanced F → ChargesEnough F → (limit : ℕ) (word : List ℕ) (m : A) (s : List Step) → F.Word word m s → StaysWithin (Some limit) 0 s → IsWithinBounds limit word s
within-bounded F f b h limit word m s w stays =
    let x = h.charges_enough word m s w in
    let a = x.spans in
    let p = balanced-word F word m s f b w in
    let even = p.1 in
    let all : charge_after 0 s ≤ limit = stays s [] (sym (append-nil s)) in
    let room = rooms_within limit 0 (counted_after (Some limit) 0 s) s (stays-after (Some limit) 0 0 s p.0 (omega arith) stays) in
    let counts = counts_within limit s x.claims room in
    let l = lengths_within limit 0 s counts in
    let c = l.1 in
    let d = l.2 in
    let j : l.0 ≤ limit / 8 = omega arith in
    let i = mul-le-mul_left limit j in
    record {
      bytes = omega arith;
      room = room;
      counts = counts;
      all_counts = omega arith;
    }
