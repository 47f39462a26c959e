-- What a format needs is the greatest charge after a prefix of its steps.
use Rattle.std.specs.Prelude.{◌≡◌, ℕ, zero, suc, ◌+◌, ◌-◌, ◌*◌, ◌<◌, ◌≤◌, ◌⊎◌, max, List, [], ◌∷◌, ◌++◌, refl, Option, Some, None, Result, Ok, Err, nat_lt, length, take, drop, Bool, true, false, if◌then◌else◌, ◌==◌, position}
use Rattle.std.proofs.Common.{sym, ◌∙◌, ap, subst, arith, inl, inr, append_assoc}
use Rattle.std.proofs.lemmas.Bool.{cases_lt, le-ltb}
use Rattle.std.proofs.lemmas.List.{append-nil}
use Rattle.bincode_base.specs.Setting.{Setting}
use Rattle.bincode_base.specs.declared.config.Endianness.{Endianness}
use Rattle.bincode_base.specs.declared.config.IntEncoding.{IntEncoding}
use Rattle.bincode_base.specs.declared.config.IntEncoding.TheVariants.{Fixed, Variable}
use Rattle.bincode_base.specs.declared.error.IntegerType.{IntegerType}
use Rattle.bincode_base.specs.declared.error.IntegerType.TheVariants as integers
use Rattle.bincode_spec.specs.Fault.{Fault}
use Rattle.bincode_spec.specs.Charge.{Step, Charge, Reserve, Release, charged_bytes, reserved_bytes, released_bytes, Passes, StaysWithin}
use Rattle.bincode_spec.specs.Format.{Format, Reading, Took, Failed, after_steps, then_read, pure, fail, fixed_bytes, step, ◌>>=◌, reading_without_count, without_count, written_as, from_result, map_format, charge_then, elements, sequence}
use Rattle.bincode_spec.specs.Integers.{digits, byte, first_of, FirstByte, Itself, Before, TooWide, first_byte, number_after, varint, number_by, unsigned_tag, signed_tag}
use Rattle.bincode_spec.specs.Integers.{unsigned_integer, signed_integer, unsigned_byte, signed_byte, integer_by}
use Rattle.bincode_spec.specs.Layers.Laws.{steps_of, Settles, Holds, IsBalanced}
use Rattle.bincode_spec.specs.Meaning.{Meaning, Bytes, Then, list_meaning}
use Rattle.bincode_spec.specs.Layers.Needs.{after_word, then_needs, each_needs, array_needs, list_needs, text_needs, picked_needs, duration_needs}
use Rattle.bincode_spec.specs.Need.{width_needs, char_needs}
use Rattle.bincode_spec.specs.Octets.{octets}
use Rattle.bincode_spec.specs.Number.{number_of, from_two_complement}
use Rattle.bincode_spec.specs.Words.{Variant, if_picked, after_tag, tag_then_part, len, array, list, length_prefixed, text, text_of, without_nul, without_nul_of, character, after_char, rest_of_char, char_width, char_of, first_and, nothing, duration, duration_of, seconds_and_nanos}
use Rattle.bincode_lemmas.specs.Balance.{full_append, reserved_append, released_append, FrontOfBoth, in_first, in_second, front_of_both}
use Rattle.bincode_lemmas.specs.Balance.{release-holds, reserve-holds, without_count-holds, more-holds}
use Rattle.bincode_lemmas.specs.IntegerLaws.{unsigned-balanced, byte-balanced}

-- steps

-- From a charge the steps reach the peak, and no prefix of them goes beyond it.
pub record IsPeak (charge peak : ℕ) (steps : List Step) : Type 0 where
  pub front : List Step
  pub back : List Step
  pub steps_are : steps ≡ front ++ back
  pub reached : peak + released_bytes front ≡ charge + charged_bytes front + reserved_bytes front
  pub highest : (front back : List Step) → steps ≡ front ++ back → charge + charged_bytes front + reserved_bytes front ≤ peak + released_bytes front

-- and so they do from a larger charge
peak_more : (charge peak more : ℕ) (steps : List Step) → IsPeak charge peak steps → IsPeak (charge + more) (peak + more) steps
peak_more charge peak more steps p = record {
  front = p.front;
  back = p.back;
  steps_are = p.steps_are;
  reached = omega (arith, p.reached);
  highest = λ front back e. let h = p.highest front back e in omega arith;
}

-- the whole is one of the prefixes
peak_whole : (charge peak : ℕ) (steps : List Step) → IsPeak charge peak steps → charge + charged_bytes steps + reserved_bytes steps ≤ peak + released_bytes steps
peak_whole charge peak steps p = p.highest steps [] (sym (append-nil steps))

peak_none : (charge : ℕ) → IsPeak charge charge []
peak_none charge = record { front = []; back = []; steps_are = refl; reached = omega arith; highest = highest } where
  highest : (front back : List Step) → [] ≡ front ++ back → charge + charged_bytes front + reserved_bytes front ≤ charge + released_bytes front
  highest [] back e = omega arith
  highest (x ∷ front) back e = absurd (cc)

highest_one : (charge peak : ℕ) (x : Step) → charge ≤ peak → charge + charged_bytes (x ∷ []) + reserved_bytes (x ∷ []) ≤ peak + released_bytes (x ∷ []) →
    (front back : List Step) → x ∷ [] ≡ front ++ back → charge + charged_bytes front + reserved_bytes front ≤ peak + released_bytes front
highest_one charge peak x h k [] back e = omega arith
highest_one charge peak x h k (y ∷ []) back e = let p : x ≡ y = cc in subst (λ z. charge + charged_bytes (z ∷ []) + reserved_bytes (z ∷ []) ≤ peak + released_bytes (z ∷ [])) p k
highest_one charge peak x h k (y ∷ (z ∷ front)) back e = absurd (cc)

peak_charge : (charge n : ℕ) → IsPeak charge (charge + n) (Charge n ∷ [])
peak_charge charge n = record { front = Charge n ∷ []; back = []; steps_are = refl; reached = omega arith; highest = highest_one charge (charge + n) (Charge n) (omega arith) (omega arith) }

peak_reserve : (charge n share : ℕ) → IsPeak charge (charge + n * share) (Reserve n share ∷ [])
peak_reserve charge n share = record { front = Reserve n share ∷ []; back = []; steps_are = refl; reached = omega arith; highest = highest_one charge (charge + n * share) (Reserve n share) (omega arith) (omega arith) }

peak_release : (charge n : ℕ) → IsPeak charge charge (Release n ∷ [])
peak_release charge n = record { front = []; back = Release n ∷ []; steps_are = refl; reached = omega arith; highest = highest_one charge charge (Release n) (omega arith) (omega arith) }

highest_both : (charge between p q : ℕ) (s t front : List Step) → between + released_bytes s ≡ charge + charged_bytes s + reserved_bytes s →
    ((front back : List Step) → s ≡ front ++ back → charge + charged_bytes front + reserved_bytes front ≤ p + released_bytes front) →
    ((front back : List Step) → t ≡ front ++ back → between + charged_bytes front + reserved_bytes front ≤ q + released_bytes front) →
    FrontOfBoth s t front → charge + charged_bytes front + reserved_bytes front ≤ max p q + released_bytes front
highest_both charge between p q s t front e x y (in_first back h) = let a = x front back h in omega arith
highest_both charge between p q s t front e x y (in_second more back h k) =
    let a = y more back k in
    rw h (omega (arith, full_append s more, reserved_append s more, released_append s more))

-- steps in turn: the greater of the two peaks
module _ (charge between p q : ℕ) (s t : List Step) (e : between + released_bytes s ≡ charge + charged_bytes s + reserved_bytes s) where
  peak_by : (p < q) ⊎ (q ≤ p) → IsPeak charge p s → IsPeak between q t → IsPeak charge (max p q) (s ++ t)
  peak_by (inl h) f g =
      let same : max p q ≡ q = omega arith in
      let a = g.reached in
      record {
        front = s ++ g.front;
        back = g.back;
        steps_are = ap (λ z. s ++ z) g.steps_are ∙ sym (append_assoc s g.front g.back);
        reached = omega (arith, full_append s g.front, reserved_append s g.front, released_append s g.front);
        highest = λ front back i. highest_both charge between p q s t front e f.highest g.highest (front_of_both s t front back i);
      }
  peak_by (inr h) f g =
      let same : max p q ≡ p = omega arith in
      let a = f.reached in
      record {
        front = f.front;
        back = f.back ++ t;
        steps_are = ap (λ z. z ++ t) f.steps_are ∙ append_assoc f.front f.back t;
        reached = omega arith;
        highest = λ front back i. highest_both charge between p q s t front e f.highest g.highest (front_of_both s t front back i);
      }

  peak_append : IsPeak charge p s → IsPeak between q t → IsPeak charge (max p q) (s ++ t)
  peak_append = peak_by (cases_lt p q)

-- the limit is passed exactly if it is below the peak
pub peak-passes : (limit peak : ℕ) (steps : List Step) → IsPeak 0 peak steps → limit < peak → Passes (Some limit) 0 steps
peak-passes limit peak steps p h = let e = p.reached in (p.front, p.back, p.steps_are, omega arith)

pub peak-stays : (limit peak : ℕ) (steps : List Step) → IsPeak 0 peak steps → peak ≤ limit → StaysWithin (Some limit) 0 steps
peak-stays limit peak steps p h = λ front back e. let k = p.highest front back e in omega arith

-- formats

-- From what is held before, the steps of each input peak at what it needs.
pub record PeaksFrom (held : ℕ) (need : List ℕ → ℕ) {A : Type 0} (F : Format A) : Type 0 where
  pub peaks : (input : List ℕ) → IsPeak held (need input) (steps_of (F.read input))

-- a format needs this limit
abbrev pub Needs : (List ℕ → ℕ) → {A : Type 0} → Format A → Type 0
Needs need F = PeaksFrom 0 need F

needs_as : {A : Type 0} (held : ℕ) (p q : List ℕ → ℕ) (F : Format A) → ((input : List ℕ) → p input ≡ q input) → PeaksFrom held p F → PeaksFrom held q F
needs_as held p q F e f = record { peaks = λ input. subst (λ n. IsPeak held n (steps_of (F.read input))) (e input) (f.peaks input) }

pure_peaks : {A : Type 0} (held : ℕ) (a : A) → PeaksFrom held (λ _. held) (pure a)
unfolding pure
pure_peaks held a = record { peaks = λ input. peak_none held }

fail_peaks : {A : Type 0} (held : ℕ) (why : Fault) → PeaksFrom held (λ _. held) (fail {A = A} why)
unfolding fail
fail_peaks held why = record { peaks = λ input. peak_none held }

charge_peaks : (held n : ℕ) → PeaksFrom held (λ _. held + n) (step (Charge n))
unfolding step
charge_peaks held n = record { peaks = λ input. peak_charge held n }

reserve_peaks : (held n share : ℕ) → PeaksFrom held (λ _. held + n * share) (step (Reserve n share))
unfolding step
reserve_peaks held n share = record { peaks = λ input. peak_reserve held n share }

release_peaks : (held n : ℕ) → PeaksFrom held (λ _. held) (step (Release n))
unfolding step
release_peaks held n = record { peaks = λ input. peak_release held n }

steps_vague : {A : Type 0} (r : Reading A) → steps_of (reading_without_count r) ≡ steps_of r
steps_vague (Took a remaining steps) = refl
steps_vague (Failed why steps) = refl

without_count_peaks : {A : Type 0} (held : ℕ) (need : List ℕ → ℕ) (F : Format A) → PeaksFrom held need F → PeaksFrom held need (without_count F)
unfolding without_count
without_count_peaks held need F f = record { peaks = λ input. subst (IsPeak held (need input)) (sym (steps_vague (F.read input))) (f.peaks input) }

-- which word is written does not matter
pub rewritten-needs : {A : Type 0} (need : List ℕ → ℕ) (Chosen : List ℕ → A → Type 0) (F : Format A) → Needs need F → Needs need (written_as Chosen F)
unfolding written_as
rewritten-needs need Chosen F f = record { peaks = f.peaks }

steps_after : {A : Type 0} (s : List Step) (r : Reading A) → steps_of (after_steps s r) ≡ s ++ steps_of r
steps_after s (Took a remaining t) = refl
steps_after s (Failed why t) = refl

-- what is held after the first is held before the second
after_held : {A : Type 0} → ℕ → Reading A → (A → List ℕ → ℕ) → ℕ
after_held p (Took a remaining steps) next = max p (charged_bytes steps + next a remaining)
after_held p (Failed why steps) next = p

module _ {A B : Type 0} (held left : ℕ) (G : A → Format B) (next : A → List ℕ → ℕ) (g : (a : A) → PeaksFrom left (next a) (G a)) where
  then_peaks : (p : ℕ) (r : Reading A) → Settles held left r → IsPeak held p (steps_of r) →
      IsPeak held (max p (after_word r next)) (steps_of (then_read r (λ a remaining. (G a).read remaining)))
  then_peaks p (Took a remaining s) h f =
      let e : held + reserved_bytes s ≡ left + released_bytes s = h.1 in
      let same : next a remaining + charged_bytes s ≡ charged_bytes s + next a remaining = omega arith in
      let y : IsPeak (left + charged_bytes s) (charged_bytes s + next a remaining) (steps_of ((G a).read remaining)) =
      subst (λ n. IsPeak (left + charged_bytes s) n (steps_of ((G a).read remaining))) same (peak_more left (next a remaining) (charged_bytes s) (steps_of ((G a).read remaining)) ((g a).peaks remaining)) in
      subst (IsPeak held (max p (charged_bytes s + next a remaining))) (sym (steps_after s ((G a).read remaining)))
      (peak_append held (left + charged_bytes s) p (charged_bytes s + next a remaining) s (steps_of ((G a).read remaining)) (omega arith) f y)
  then_peaks p (Failed why s) h f = let same : max p 0 ≡ p = omega arith in rw same f

  -- parts in order
  turn_peaks : (need : List ℕ → ℕ) (F : Format A) → Holds held left F → PeaksFrom held need F → PeaksFrom held (then_needs F need next) (F >>= G)
  unfolding ◌>>=◌
  turn_peaks need F h f = record { peaks = λ input. then_peaks (need input) (F.read input) (h.settles input) (f.peaks input) }

-- formats without steps

abbrev Free : {A : Type 0} → Format A → Type 0
Free F = (input : List ℕ) → steps_of (F.read input) ≡ []

free_peaks : {A : Type 0} (held : ℕ) (F : Format A) → Free F → PeaksFrom held (λ _. held) F
free_peaks held F f = record { peaks = λ input. subst (IsPeak held held) (sym (f input)) (peak_none held) }

pure_free : {A : Type 0} (a : A) → Free (pure a)
unfolding pure
pure_free a input = refl

fail_free : (A : Type 0) (why : Fault) → Free (fail {A = A} why)
unfolding fail
fail_free A why input = refl

from_result_free : {A : Type 0} (r : Result A Fault) → Free (from_result r)
from_result_free (Ok a) = pure_free a
from_result_free (Err why) = fail_free _ why

fixed_bytes_either : (test : Bool) (why : Fault) (bytes remaining : List ℕ) → steps_of (if test then Failed why [] else Took bytes remaining []) ≡ []
fixed_bytes_either true why bytes remaining = refl
fixed_bytes_either false why bytes remaining = refl

fixed_bytes_free : (n : ℕ) → Free (fixed_bytes n)
unfolding fixed_bytes
fixed_bytes_free n input = fixed_bytes_either (nat_lt (length input) n) _ (take n input) (drop n input)

rewritten_free : {A : Type 0} (Chosen : List ℕ → A → Type 0) (F : Format A) → Free F → Free (written_as Chosen F)
unfolding written_as
rewritten_free Chosen F f = f

without_count_free : {A : Type 0} (F : Format A) → Free F → Free (without_count F)
unfolding without_count
without_count_free F f input = steps_vague (F.read input) ∙ f input

module _ {A B : Type 0} (G : A → Format B) (g : (a : A) → Free (G a)) where
  steps_then : (r : Reading A) → steps_of (then_read r (λ a remaining. (G a).read remaining)) ≡ steps_of r
  steps_then (Took a remaining s) = steps_after s ((G a).read remaining) ∙ ap (λ z. s ++ z) (g a remaining) ∙ append-nil s
  steps_then (Failed why s) = refl

  then_free : (F : Format A) → Free F → Free (F >>= G)
  unfolding ◌>>=◌
  then_free F f input = steps_then (F.read input) ∙ f input

  -- what has no steps may follow
  free_after : (held : ℕ) (need : List ℕ → ℕ) (F : Format A) → PeaksFrom held need F → PeaksFrom held need (F >>= G)
  unfolding ◌>>=◌
  free_after held need F f = record { peaks = λ input. subst (IsPeak held (need input)) (sym (steps_then (F.read input))) (f.peaks input) }

-- another meaning, and a test of it, need nothing
pub map-needs : {A B : Type 0} (need : List ℕ → ℕ) (f : A → B) (F : Format A) → Needs need F → Needs need (map_format f F)
map-needs need f F h = free_after (λ a. pure (f a)) (λ a. pure_free (f a)) 0 need F h

pub test-needs : {A B : Type 0} (need : List ℕ → ℕ) (F : Format A) (test : A → Result B Fault) → Needs need F → Needs need (F >>= λ a. from_result (test a))
test-needs need F test h = free_after (λ a. from_result (test a)) (λ a. from_result_free (test a)) 0 need F h

-- a charge is needed in full, whether the bytes come or not
charged_needs : {A : Type 0} (n : ℕ) (F : Format A) → Free F → Needs (λ _. n) (charge_then n F)
unfolding step ◌>>=◌
charged_needs n F f =
    let e : 0 + n ≡ n = omega arith in
    record { peaks = λ input. subst (IsPeak 0 n) (sym (steps_after (Charge n ∷ []) (F.read input) ∙ ap (λ z. Charge n ∷ z) (f input))) (subst (λ k. IsPeak 0 k (Charge n ∷ [])) e (peak_charge 0 n)) }

-- numbers

digits_free : (order : Endianness) (width : ℕ) → Free (digits order width)
unfolding digits
digits_free order width = rewritten_free _ _ (then_free (λ b. pure (number_of order b)) (λ b. pure_free (number_of order b)) (fixed_bytes width) (fixed_bytes_free width))

byte_free : Free byte
unfolding byte
byte_free = then_free (λ b. pure (first_of b)) (λ b. pure_free (first_of b)) (fixed_bytes 1) (fixed_bytes_free 1)

after_free : (order : Endianness) (why : Fault) (first : ℕ) (b : FirstByte) → Free (number_after order why first b)
after_free order why first Itself = pure_free first
after_free order why first (Before n) = digits_free order n
after_free order why first TooWide = fail_free _ why

varint_free : (tags : ℕ → IntegerType) (name : IntegerType) (order : Endianness) (width : ℕ) → Free (varint tags name order width)
unfolding varint
varint_free tags name order width = rewritten_free _ _ (then_free (λ first. number_after order _ first (first_byte width first)) (λ first. after_free order _ first (first_byte width first)) byte byte_free)

number_free : (tags : ℕ → IntegerType) (name : IntegerType) (order : Endianness) (width : ℕ) (e : IntEncoding) → Free (number_by tags name order width e)
number_free tags name order width Fixed = digits_free order width
number_free tags name order width Variable = varint_free tags name order width

-- a number needs its full width
pub unsigned-needs : (name : IntegerType) (width : ℕ) (s : Setting) → Needs (λ _. width) (unsigned_integer name width s)
unfolding unsigned_integer
unsigned-needs name width s = charged_needs width _ (number_free unsigned_tag name s.order width s.encoding)

pub signed-needs : (name : IntegerType) (width : ℕ) (s : Setting) → Needs (λ _. width) (signed_integer name width s)
unfolding signed_integer
signed-needs name width s = charged_needs width _ (then_free (λ n. pure (integer_by width s.encoding n)) (λ n. pure_free (integer_by width s.encoding n)) _ (number_free signed_tag name s.order width s.encoding))

pub unsigned_byte-needs : Needs (λ _. 1) unsigned_byte
unfolding unsigned_byte
unsigned_byte-needs = charged_needs 1 byte byte_free

pub signed_byte-needs : Needs (λ _. 1) signed_byte
unfolding signed_byte
signed_byte-needs = charged_needs 1 _ (then_free (λ b. pure (from_two_complement 1 b)) (λ b. pure_free (from_two_complement 1 b)) byte byte_free)

-- a character needs its bytes, once the first one tells how many
char_rest : (first : ℕ) (width : Option ℕ) → Needs (λ _. width_needs width) (after_char first width)
char_rest first None = fail_peaks 0 _
char_rest first (Some width) = charged_needs width (rest_of_char first width) (then_free (λ bytes. from_result (char_of (first ∷ bytes))) (λ bytes. from_result_free (char_of (first ∷ bytes))) (fixed_bytes (width - 1)) (fixed_bytes_free (width - 1)))

byte_read : (first : ℕ) (input : List ℕ) → byte.read (first ∷ input) ≡ Took first input []
unfolding byte fixed_bytes pure ◌>>=◌
byte_read first input = let e : nat_lt (length (first ∷ input)) 1 ≡ false = le-ltb (length (first ∷ input)) 1 (omega arith) in rw e refl

char_same : (input : List ℕ) → max 0 (after_word (byte.read input) (λ first _. width_needs (char_width first))) ≡ char_needs input
unfolding byte fixed_bytes pure ◌>>=◌
char_same [] = refl
char_same (first ∷ input) = rw (byte_read first input) (omega arith)

pub character-needs : Needs char_needs character
character-needs =
    needs_as 0 (then_needs byte (λ _. 0) (λ first _. width_needs (char_width first))) char_needs character char_same
    (turn_peaks 0 0 (λ first. after_char first (char_width first)) (λ first _. width_needs (char_width first)) (λ first. char_rest first (char_width first)) (λ _. 0) byte byte-balanced (free_peaks 0 byte byte_free))

-- parts in order
pub nothing-needs : Needs (λ _. 0) nothing
unfolding nothing
nothing-needs = pure_peaks 0 _

pub then-needs : {F others : Format Meaning} {p q : List ℕ → ℕ} → IsBalanced F → Needs p F → Needs q others → Needs (then_needs F p (λ _. q)) (first_and F others)
unfolding first_and
then-needs {F} {others} {p} {q} b f g = turn_peaks 0 0 (λ m. map_format (Then m) others) (λ _. q) (λ m. map-needs q (Then m) others g) p F b f

-- elements

after_vague : {A : Type 0} (r : Reading A) (next : A → List ℕ → ℕ) → after_word (reading_without_count r) next ≡ after_word r next
after_vague (Took a remaining s) next = refl
after_vague (Failed why s) next = refl

-- what is held for the others is less than what the element needed beside it
room_covered : {A : Type 0} (room p : ℕ) (next : List ℕ → ℕ) (r : Reading A) → Settles 0 0 r → IsPeak 0 p (steps_of r) →
    max (p + room) (after_word r (λ _ remaining. max room (next remaining))) ≡ max (room + p) (after_word r (λ _ remaining. next remaining))
room_covered room p next (Took a remaining s) h f =
    let k = peak_whole 0 p s f in
    let e : 0 + reserved_bytes s ≡ 0 + released_bytes s = h.1 in
    omega arith
room_covered room p next (Failed why s) h f = omega arith

module _ {A : Type 0} (share : ℕ) (F : Format A) (need : List ℕ → ℕ) (b : IsBalanced F) (f : Needs need F) where
  element_peaks : (room : ℕ) → PeaksFrom room (λ input. need input + room) F
  element_peaks room = record { peaks = λ input. let e : 0 + room ≡ room = omega arith in subst (λ h. IsPeak h (need input + room) (steps_of (F.read input))) e (peak_more 0 (need input) room _ (f.peaks input)) }

  abbrev element : ℕ → A → Format (List A)
  element n a = map_format (λ others. a ∷ others) (elements n share F)

  abbrev element_needs : ℕ → List ℕ → ℕ
  element_needs n = then_needs (without_count F) (λ input. need input + n * share) (λ _. array_needs n share F need)

  next_same : (n : ℕ) (input : List ℕ) → max (n * share + share) (after_word ((step (Release share)).read input) (λ _. element_needs n)) ≡ array_needs (suc n) share F need input
  unfolding step without_count
  next_same n input =
      let e : suc n * share ≡ n * share + share = omega arith in
      let v = after_vague (F.read input) (λ _ remaining. array_needs n share F need remaining) in
      let k = room_covered (n * share) (need input) (each_needs n share F need) (F.read input) (b.settles input) (f.peaks input) in
      omega (arith, v, k)

  elements_peaks : (n : ℕ) → PeaksFrom (n * share) (array_needs n share F need) (elements n share F)
  elements_peaks zero = needs_as (0 * share) (λ _. 0 * share) _ (pure []) (λ input. omega arith) (pure_peaks (0 * share) [])
  elements_peaks (suc n) =
      let e : suc n * share ≡ n * share + share = omega arith in
      needs_as (suc n * share) _ (array_needs (suc n) share F need) (elements (suc n) share F) (next_same n)
      (rw e (turn_peaks (n * share + share) (n * share) (λ _. without_count F >>= element n) (λ _. element_needs n)
      (λ _. turn_peaks (n * share) (n * share) (element n) (λ _. array_needs n share F need)
      (λ a. free_after (λ others. pure (a ∷ others)) (λ others. pure_free (a ∷ others)) (n * share) (array_needs n share F need) (elements n share F) (elements_peaks n))
      (λ input. need input + n * share) (without_count F) (without_count-holds (n * share) (n * share) F (more-holds (n * share) F b)) (without_count_peaks (n * share) _ F (element_peaks (n * share))))
      (λ _. n * share + share) (step (Release share)) (release-holds (n * share) share) (release_peaks (n * share + share) share)))

  room_same : (n : ℕ) (input : List ℕ) → max (0 + n * share) (after_word ((step (Reserve n share)).read input) (λ _. array_needs n share F need)) ≡ array_needs n share F need input
  unfolding step
  room_same n input = omega arith

  sequence_needs : (n : ℕ) → Needs (array_needs n share F need) (sequence n share F)
  sequence_needs n =
      needs_as 0 _ (array_needs n share F need) (sequence n share F) (room_same n)
      (turn_peaks 0 (0 + n * share) (λ _. elements n share F) (λ _. array_needs n share F need)
      (λ _. let e : 0 + n * share ≡ n * share = omega arith in rw e (elements_peaks n))
      (λ _. 0 + n * share) (step (Reserve n share)) (reserve-holds 0 n share) (reserve_peaks 0 n share))

pub array-needs : (n share : ℕ) (F : Format Meaning) (need : List ℕ → ℕ) → IsBalanced F → Needs need F → Needs (array_needs n share F need) (array n share F)
array-needs n share F need b f = map-needs _ list_meaning (sequence n share F) (sequence_needs share F need b f n)

pub list-needs : (s : Setting) (share : ℕ) (F : Format Meaning) (need : List ℕ → ℕ) → IsBalanced F → Needs need F → Needs (list_needs s share F need) (list s share F)
list-needs s share F need b f =
    turn_peaks 0 0 (λ n. array n share F) (λ n. array_needs n share F need) (λ n. array-needs n share F need b f) (λ _. 8) (len s) (unsigned-balanced integers.U64 8 s) (unsigned-needs integers.U64 8 s)

pub length_prefixed-needs : (s : Setting) → Needs (text_needs s) (length_prefixed s)
length_prefixed-needs s =
    turn_peaks 0 0 (λ n. charge_then n (without_count (fixed_bytes n))) (λ n _. n) (λ n. charged_needs n (without_count (fixed_bytes n)) (without_count_free (fixed_bytes n) (fixed_bytes_free n))) (λ _. 8) (len s) (unsigned-balanced integers.U64 8 s)
    (unsigned-needs integers.U64 8 s)

pub text-needs : (s : Setting) → Needs (text_needs s) (text s)
text-needs s = test-needs (text_needs s) (length_prefixed s) text_of (length_prefixed-needs s)

-- bytes without a zero
pub c_string-needs : (s : Setting) → Needs (text_needs s) (without_nul s)
c_string-needs s = test-needs (text_needs s) (length_prefixed s) (λ bytes. without_nul_of bytes (position (λ b. b == 0) bytes)) (length_prefixed-needs s)

-- octets
pub octets-needs : (n : ℕ) → Needs (λ _. n) (octets n)
octets-needs n = map-needs (λ _. n) Bytes (charge_then n (fixed_bytes n)) (charged_needs n (fixed_bytes n) (fixed_bytes_free n))

-- choices

pub picked-needs : (picked : Bool) (F G : Format Meaning) (p q : List ℕ → ℕ) → Needs p F → Needs q G → Needs (picked_needs picked p q) (if_picked picked F G)
picked-needs true F G p q f g = f
picked-needs false F G p q f g = g

pub fail-needs : (why : Fault) → Needs (λ _. 0) (fail {A = Meaning} why)
fail-needs why = fail_peaks 0 why

pub chosen-needs : (tags : Setting → Format ℕ) (variants : List Variant) (s : Setting) (width : ℕ) (next : ℕ → List ℕ → ℕ) → IsBalanced (tags s) → Needs (λ _. width) (tags s) →
    ((found : ℕ) → Needs (next found) (after_tag variants s found)) → Needs (then_needs (tags s) (λ _. width) next) (tag_then_part tags variants s)
unfolding tag_then_part
chosen-needs tags variants s width next b t g = turn_peaks 0 0 (after_tag variants s) next g (λ _. width) (tags s) b t

-- a duration: its two numbers
pub duration-needs : (s : Setting) → Needs (duration_needs s) (duration s)
duration-needs s =
    rewritten-needs _ _ _ (test-needs _ (seconds_and_nanos s) (λ parts. duration_of parts.0 parts.1)
    (turn_peaks 0 0 (λ seconds. map_format (λ nanos. (seconds, nanos)) (unsigned_integer integers.U32 4 s)) (λ _ _. 4)
    (λ seconds. map-needs _ (λ nanos. (seconds, nanos)) (unsigned_integer integers.U32 4 s) (unsigned-needs integers.U32 4 s))
    (λ _. 8) (unsigned_integer integers.U64 8 s) (unsigned-balanced integers.U64 8 s) (unsigned-needs integers.U64 8 s)))
