-- The charge of the words of a format, if it is the same for all.
use Rattle.std.specs.Prelude.{◌≡◌, ℕ, zero, suc, ◌+◌, ◌*◌, ◌≤◌, max, List, [], ◌∷◌, ◌++◌, refl, length, Option, Some, None, Result, Ok, Err}
use Rattle.std.proofs.Common.{sym, ◌∙◌, ap, subst, arith, append_assoc}
use Rattle.std.proofs.Math.Nat.{mul-le-mul_left}
use Rattle.std.proofs.lemmas.List.{append-nil}
use Rattle.bincode_spec.specs.Answer.{Allows}
use Rattle.bincode_spec.specs.Fault.{Fault}
use Rattle.bincode_spec.specs.Charge.{Step, Charge, Reserve, Release, charged_bytes, reserved_bytes, released_bytes, charge_after, StaysWithin}
use Rattle.bincode_spec.specs.Format.{Format, pure, fail, fixed_bytes, step, ◌>>=◌, written_as, without_count, from_result, map_format, charge_then, elements, sequence}
use Rattle.bincode_base.specs.Setting.{Setting}
use Rattle.bincode_base.specs.declared.config.Endianness.{Endianness}
use Rattle.bincode_base.specs.declared.config.IntEncoding.{IntEncoding}
use Rattle.bincode_base.specs.declared.config.IntEncoding.TheVariants.{Fixed, Variable}
use Rattle.bincode_base.specs.declared.error.IntegerType.{IntegerType}
use Rattle.bincode_base.specs.declared.error.IntegerType.TheVariants as integers
use Rattle.bincode_spec.specs.Integers.{digits, byte, first_of, FirstByte, Itself, Before, TooWide, first_byte, number_after, varint, number_by, unsigned_tag, signed_tag}
use Rattle.bincode_spec.specs.Integers.{unsigned_integer, signed_integer, unsigned_byte, signed_byte, integer_by}
use Rattle.bincode_spec.specs.Limits.{FitsLimit}
use Rattle.bincode_spec.specs.Layers.Laws.{Costs}
use Rattle.bincode_spec.specs.Meaning.{Meaning, Nothing, Then, list_meaning}
use Rattle.bincode_spec.specs.Number.{number_of, from_two_complement}
use Rattle.bincode_spec.specs.Words.{truth, truth_of, not_zero_by, not_zero_of, duration, duration_of, seconds_and_nanos, nothing, first_and, four_and, array, list}
use Rattle.bincode_spec.specs.Run.{IsListOf}
use Rattle.bincode_lemmas.specs.ListLaws.{array-word_length}
use Rattle.bincode_lemmas.specs.Balance.{full_append, reserved_append, released_append, FrontOfBoth, in_first, in_second, front_of_both}

-- if the limit allows the peak, it allows the steps of a word
pub cost-within : {A : Type 0} (F : Format A) (peak cost : ℕ) → Costs peak cost F → (limit : Option ℕ) (charge : ℕ) → Allows limit (charge + peak) →
    (word : List ℕ) (m : A) (s : List Step) → F.Word word m s → StaysWithin limit charge s
cost-within F peak cost c None charge h word m s w = tt
cost-within F peak cost c (Some limit) charge h word m s w = λ front back e. let p = c.stays word m s w front back e in omega arith

-- if the limit allows the peak, the steps of each word stay within it
pub cost-fits : (F : Format Meaning) (peak cost : ℕ) → Costs peak cost F → (limit : Option ℕ) → Allows limit peak → (word : List ℕ) → FitsLimit F limit word
cost-fits F peak cost c None h word = λ m s u. tt
cost-fits F peak cost c (Some limit) h word = λ m s u front back e. let q = c.stays word m s u front back e in omega arith

-- no steps
stays_none : (peak : ℕ) (s front back : List Step) → s ≡ [] → s ≡ front ++ back → charged_bytes front + reserved_bytes front ≤ peak + released_bytes front
stays_none peak s [] back e h = omega arith
stays_none peak s (x ∷ front) back e h = absurd (cc)

pub pure-costs : {A : Type 0} (a : A) → Costs 0 0 (pure a)
unfolding pure
pure-costs a = record {
  charges = λ word m s w. ap charged_bytes w.2;
  evens = λ word m s w. ap reserved_bytes w.2 ∙ sym (ap released_bytes w.2);
  stays = λ word m s w front back e. stays_none 0 s front back w.2 e;
}

pub fail-costs : {A : Type 0} (peak cost : ℕ) (why : Fault) → Costs peak cost (fail {A = A} why)
unfolding fail
fail-costs peak cost why = record { charges = λ word m s w. absurd w; evens = λ word m s w. absurd w; stays = λ word m s w. absurd w }

pub fixed_bytes-costs : (n : ℕ) → Costs 0 0 (fixed_bytes n)
unfolding fixed_bytes
fixed_bytes-costs n = record {
  charges = λ word m s w. ap charged_bytes w.2;
  evens = λ word m s w. ap reserved_bytes w.2 ∙ sym (ap released_bytes w.2);
  stays = λ word m s w front back e. stays_none 0 s front back w.2 e;
}

stays_charge : (n : ℕ) (s front back : List Step) → s ≡ Charge n ∷ [] → s ≡ front ++ back → charged_bytes front + reserved_bytes front ≤ n + released_bytes front
stays_charge n s [] back e h = omega arith
stays_charge n s (x ∷ []) back e h = let p : x ≡ Charge n = cc in rw p (omega arith)
stays_charge n s (x ∷ (y ∷ front)) back e h = absurd (cc)

pub charge-costs : (n : ℕ) → Costs n n (step (Charge n))
unfolding step
charge-costs n = record {
  charges = λ word m s w. ap charged_bytes w.1 ∙ (omega arith);
  evens = λ word m s w. ap reserved_bytes w.1 ∙ sym (ap released_bytes w.1);
  stays = λ word m s w front back e. stays_charge n s front back w.1 e;
}

pub rewritten-costs : {A : Type 0} (peak cost : ℕ) (Chosen : List ℕ → A → Type 0) (F : Format A) → Costs peak cost F → Costs peak cost (written_as Chosen F)
unfolding written_as
rewritten-costs peak cost Chosen F c = record { charges = c.charges; evens = c.evens; stays = c.stays }

pub without_count-costs : {A : Type 0} (peak cost : ℕ) (F : Format A) → Costs peak cost F → Costs peak cost (without_count F)
unfolding without_count
without_count-costs peak cost F c = record { charges = c.charges; evens = c.evens; stays = c.stays }

stays_both : (peak p c q : ℕ) (s t front : List Step) → p ≤ peak → c + q ≤ peak → charged_bytes s ≡ c → reserved_bytes s ≡ released_bytes s →
    ((front back : List Step) → s ≡ front ++ back → charged_bytes front + reserved_bytes front ≤ p + released_bytes front) →
    ((front back : List Step) → t ≡ front ++ back → charged_bytes front + reserved_bytes front ≤ q + released_bytes front) →
    FrontOfBoth s t front → charged_bytes front + reserved_bytes front ≤ peak + released_bytes front
stays_both peak p c q s t front h k e f x y (in_first back i) = let a = x front back i in omega arith
stays_both peak p c q s t front h k e f x y (in_second more back i j) =
    let a = y more back j in
    rw i (omega (arith, full_append s more, reserved_append s more, released_append s more))

module _ {A B : Type 0} (F : Format A) (G : A → Format B) where
  -- one and then another, within a peak that allows both
  pub turn-costs : (peak p c q d : ℕ) → p ≤ peak → c + q ≤ peak → Costs p c F → ((a : A) → Costs q d (G a)) → Costs peak (c + d) (F >>= G)
  unfolding ◌>>=◌
  turn-costs peak p c q d h k f g = record {
    charges = λ word m s w.
        ap charged_bytes w.steps_are ∙ full_append w.first_steps w.second_steps
        ∙ ap (λ n. n + charged_bytes w.second_steps) (f.charges w.first w.head w.first_steps w.first_word)
        ∙ ap (λ n. c + n) ((g w.head).charges w.second m w.second_steps w.second_word);
    evens = λ word m s w.
        let x = f.evens w.first w.head w.first_steps w.first_word in
        let y = (g w.head).evens w.second m w.second_steps w.second_word in
        rw w.steps_are (omega (arith, reserved_append w.first_steps w.second_steps, released_append w.first_steps w.second_steps));
    stays = λ word m s w front back e.
        stays_both peak p c q w.first_steps w.second_steps front h k (f.charges w.first w.head w.first_steps w.first_word) (f.evens w.first w.head w.first_steps w.first_word)
        (f.stays w.first w.head w.first_steps w.first_word) ((g w.head).stays w.second m w.second_steps w.second_word)
        (front_of_both w.first_steps w.second_steps front back (sym w.steps_are ∙ e));
  }

-- a test or another meaning costs nothing
none_costs : {A : Type 0} (r : Result A Fault) → Costs 0 0 (from_result r)
none_costs (Ok a) = pure-costs a
none_costs (Err why) = fail-costs 0 0 why

module _ {A B : Type 0} (F : Format A) (G : A → Format B) (peak cost : ℕ) where
  -- what is free may follow,
  pub free-after : Costs peak cost F → ((a : A) → Costs 0 0 (G a)) → Costs peak cost (F >>= G)
  unfolding ◌>>=◌
  free-after f g = record {
    charges = λ word m s w.
        ap charged_bytes w.steps_are ∙ full_append w.first_steps w.second_steps
        ∙ ap (λ n. n + charged_bytes w.second_steps) (f.charges w.first w.head w.first_steps w.first_word)
        ∙ ap (λ n. cost + n) ((g w.head).charges w.second m w.second_steps w.second_word) ∙ (omega arith);
    evens = λ word m s w.
        let x = f.evens w.first w.head w.first_steps w.first_word in
        let y = (g w.head).evens w.second m w.second_steps w.second_word in
        rw w.steps_are (omega (arith, reserved_append w.first_steps w.second_steps, released_append w.first_steps w.second_steps));
    stays = λ word m s w front back e.
        let whole = f.stays w.first w.head w.first_steps w.first_word in
        let even = f.evens w.first w.head w.first_steps w.first_word in
        behind w.first_steps w.second_steps front whole even ((g w.head).stays w.second m w.second_steps w.second_word)
        (front_of_both w.first_steps w.second_steps front back (sym w.steps_are ∙ e));
  } where
    behind : (s t front : List Step) → ((front back : List Step) → s ≡ front ++ back → charged_bytes front + reserved_bytes front ≤ peak + released_bytes front) → reserved_bytes s ≡ released_bytes s →
        ((front back : List Step) → t ≡ front ++ back → charged_bytes front + reserved_bytes front ≤ 0 + released_bytes front) → FrontOfBoth s t front → charged_bytes front + reserved_bytes front ≤ peak + released_bytes front
    behind s t front x e y (in_first back i) = x front back i
    behind s t front x e y (in_second more back i j) =
        let a = y more back j in
        let b = x s [] (sym (append-nil s)) in
        rw i (omega (arith, full_append s more, reserved_append s more, released_append s more))

  -- and come before
  pub free-before : Costs 0 0 F → ((a : A) → Costs peak cost (G a)) → Costs peak cost (F >>= G)
  free-before f g =
      let e : 0 + cost ≡ cost = omega arith in
      subst (λ n. Costs peak n (F >>= G)) e (turn-costs F G peak 0 0 peak cost (omega arith) (omega arith) f g)

pub map-costs : {A B : Type 0} (peak cost : ℕ) (f : A → B) (F : Format A) → Costs peak cost F → Costs peak cost (map_format f F)
map-costs peak cost f F c = free-after F (λ a. pure (f a)) peak cost c (λ a. pure-costs (f a))

pub test-costs : {A B : Type 0} (peak cost : ℕ) (F : Format A) (test : A → Result B Fault) → Costs peak cost F → Costs peak cost (F >>= λ a. from_result (test a))
test-costs peak cost F test c = free-after F (λ a. from_result (test a)) peak cost c (λ a. none_costs (test a))

pub charge_then-costs : {A : Type 0} (n : ℕ) (F : Format A) → Costs 0 0 F → Costs n n (charge_then n F)
charge_then-costs n F c = free-after (step (Charge n)) (λ _. F) n n (charge-costs n) (λ _. c)

-- numbers

digits_cost : (order : Endianness) (width : ℕ) → Costs 0 0 (digits order width)
unfolding digits
digits_cost order width = rewritten-costs 0 0 _ _ (map-costs 0 0 (number_of order) (fixed_bytes width) (fixed_bytes-costs width))

byte_costs : Costs 0 0 byte
unfolding byte
byte_costs = map-costs 0 0 first_of (fixed_bytes 1) (fixed_bytes-costs 1)

after_costs : (order : Endianness) (why : Fault) (first : ℕ) (b : FirstByte) → Costs 0 0 (number_after order why first b)
after_costs order why first Itself = pure-costs first
after_costs order why first (Before n) = digits_cost order n
after_costs order why first TooWide = fail-costs 0 0 why

varint_costs : (tags : ℕ → IntegerType) (name : IntegerType) (order : Endianness) (width : ℕ) → Costs 0 0 (varint tags name order width)
unfolding varint
varint_costs tags name order width = rewritten-costs 0 0 _ _ (free-after byte _ 0 0 byte_costs (λ first. after_costs order _ first (first_byte width first)))

number_costs : (tags : ℕ → IntegerType) (name : IntegerType) (order : Endianness) (width : ℕ) (e : IntEncoding) → Costs 0 0 (number_by tags name order width e)
number_costs tags name order width Fixed = digits_cost order width
number_costs tags name order width Variable = varint_costs tags name order width

-- a number charges its full width
pub unsigned-costs : (name : IntegerType) (width : ℕ) (s : Setting) → Costs width width (unsigned_integer name width s)
unfolding unsigned_integer
unsigned-costs name width s = charge_then-costs width _ (number_costs unsigned_tag name s.order width s.encoding)

pub signed-costs : (name : IntegerType) (width : ℕ) (s : Setting) → Costs width width (signed_integer name width s)
unfolding signed_integer
signed-costs name width s = charge_then-costs width _ (map-costs 0 0 (integer_by width s.encoding) _ (number_costs signed_tag name s.order width s.encoding))

pub unsigned_byte-costs : Costs 1 1 unsigned_byte
unfolding unsigned_byte
unsigned_byte-costs = charge_then-costs 1 byte byte_costs

pub signed_byte-costs : Costs 1 1 signed_byte
unfolding signed_byte
signed_byte-costs = charge_then-costs 1 _ (map-costs 0 0 (from_two_complement 1) byte byte_costs)

-- a truth value charges its byte,
pub truth-costs : Costs 1 1 truth
truth-costs = test-costs 1 1 unsigned_byte truth_of unsigned_byte-costs

-- a `NonZero` number charges what the number does,
pub not_zero-costs : {A : Type 0} (size : A → ℕ) (name : IntegerType) (width : ℕ) (F : Format A) → Costs width width F → Costs width width (not_zero_by size name F)
not_zero-costs size name width F c = test-costs width width F (λ a. not_zero_of name (size a) a) c

-- a duration charges its two numbers
pub duration-costs : (s : Setting) → Costs 12 12 (duration s)
duration-costs s =
    rewritten-costs 12 12 _ _ (test-costs 12 12 (seconds_and_nanos s) (λ parts. duration_of parts.0 parts.1)
    (turn-costs (unsigned_integer integers.U64 8 s) _ 12 8 8 4 4 (omega arith) (omega arith) (unsigned-costs integers.U64 8 s)
    (λ seconds. map-costs 4 4 (λ nanos. (seconds, nanos)) (unsigned_integer integers.U32 4 s) (unsigned-costs integers.U32 4 s))))

-- parts in order
pub nothing-costs : Costs 0 0 nothing
unfolding nothing
nothing-costs = pure-costs Nothing

first_and_costs : (F others : Format Meaning) (peak p c q d : ℕ) → p ≤ peak → c + q ≤ peak → Costs p c F → Costs q d others → Costs peak (c + d) (first_and F others)
unfolding first_and
first_and_costs F others peak p c q d h k f g = turn-costs F _ peak p c q d h k f (λ m. map-costs q d (Then m) others g)

pub then-costs : {F others : Format Meaning} {p c q d : ℕ} → Costs p c F → Costs q d others → Costs (max p (c + q)) (c + d) (first_and F others)
then-costs {F} {others} {p} {c} {q} {d} f g = first_and_costs F others (max p (c + q)) p c q d (omega arith) (omega arith) f g

pub four-costs : {F G H I others : Format Meaning} {p a q b r c s d t e : ℕ} → Costs p a F → Costs q b G → Costs r c H → Costs s d I → Costs t e others →
    Costs (max p (a + max q (b + max r (c + max s (d + t))))) (a + (b + (c + (d + e)))) (four_and F G H I others)
four-costs f g h i others = then-costs f (then-costs g (then-costs h (then-costs i others)))

-- arrays

-- `Costs` of words that release what was held before: `held` more than they reserve.
record Frees (held peak cost : ℕ) {A : Type 0} (F : Format A) : Type 0 where
  charges : (word : List ℕ) (m : A) (s : List Step) → F.Word word m s → charged_bytes s ≡ cost
  evens : (word : List ℕ) (m : A) (s : List Step) → F.Word word m s → reserved_bytes s + held ≡ released_bytes s
  stays : (word : List ℕ) (m : A) (s : List Step) → F.Word word m s → (front back : List Step) → s ≡ front ++ back → charged_bytes front + reserved_bytes front + held ≤ peak + released_bytes front

costs_free : {A : Type 0} (held peak total cost : ℕ) (F : Format A) → held ≡ 0 → peak ≤ total → Costs peak cost F → Frees held total cost F
costs_free held peak total cost F e k c = record {
  charges = c.charges;
  evens = λ word m s w. let p = c.evens word m s w in omega arith;
  stays = λ word m s w front back i. let p = c.stays word m s w front back i in omega arith;
}

frees_cost : {A : Type 0} (peak cost : ℕ) (F : Format A) → Frees 0 peak cost F → Costs peak cost F
frees_cost peak cost F c = record {
  charges = c.charges;
  evens = λ word m s w. let p = c.evens word m s w in omega arith;
  stays = λ word m s w front back i. let p = c.stays word m s w front back i in omega arith;
}

stays_release : (n peak : ℕ) (s front back : List Step) → n ≤ peak → s ≡ Release n ∷ [] → s ≡ front ++ back → charged_bytes front + reserved_bytes front + n ≤ peak + released_bytes front
stays_release n peak s [] back k e h = omega arith
stays_release n peak s (x ∷ []) back k e h = let p : x ≡ Release n = cc in rw p (omega arith)
stays_release n peak s (x ∷ (y ∷ front)) back k e h = absurd (cc)

release_frees : (n peak : ℕ) → n ≤ peak → Frees n peak 0 (step (Release n))
unfolding step
release_frees n peak k = record {
  charges = λ word m s w. ap charged_bytes w.1;
  evens = λ word m s w. let e : reserved_bytes s ≡ 0 = ap reserved_bytes w.1 in let f : released_bytes s ≡ n + 0 = ap released_bytes w.1 in omega arith;
  stays = λ word m s w front back e. stays_release n peak s front back k w.1 e;
}

frees_both : (peak h p c k q : ℕ) (s t front : List Step) → p + k ≤ peak → c + q ≤ peak → charged_bytes s ≡ c → reserved_bytes s + h ≡ released_bytes s →
    ((front back : List Step) → s ≡ front ++ back → charged_bytes front + reserved_bytes front + h ≤ p + released_bytes front) →
    ((front back : List Step) → t ≡ front ++ back → charged_bytes front + reserved_bytes front + k ≤ q + released_bytes front) →
    FrontOfBoth s t front → charged_bytes front + reserved_bytes front + (h + k) ≤ peak + released_bytes front
frees_both peak h p c k q s t front i j e f x y (in_first back o) = let a = x front back o in omega arith
frees_both peak h p c k q s t front i j e f x y (in_second more back o r) =
    let a = y more back r in
    rw o (omega (arith, full_append s more, reserved_append s more, released_append s more))

turn_frees : {A B : Type 0} (F : Format A) (G : A → Format B) (peak h p c k q d : ℕ) → p + k ≤ peak → c + q ≤ peak → Frees h p c F → ((a : A) → Frees k q d (G a)) → Frees (h + k) peak (c + d) (F >>= G)
unfolding ◌>>=◌
turn_frees F G peak h p c k q d i j f g = record {
  charges = λ word m s w.
      ap charged_bytes w.steps_are ∙ full_append w.first_steps w.second_steps
      ∙ ap (λ n. n + charged_bytes w.second_steps) (f.charges w.first w.head w.first_steps w.first_word)
      ∙ ap (λ n. c + n) ((g w.head).charges w.second m w.second_steps w.second_word);
  evens = λ word m s w.
      let x = f.evens w.first w.head w.first_steps w.first_word in
      let y = (g w.head).evens w.second m w.second_steps w.second_word in
      rw w.steps_are (omega (arith, reserved_append w.first_steps w.second_steps, released_append w.first_steps w.second_steps));
  stays = λ word m s w front back e.
      frees_both peak h p c k q w.first_steps w.second_steps front i j (f.charges w.first w.head w.first_steps w.first_word) (f.evens w.first w.head w.first_steps w.first_word)
      (f.stays w.first w.head w.first_steps w.first_word) ((g w.head).stays w.second m w.second_steps w.second_word)
      (front_of_both w.first_steps w.second_steps front back (sym w.steps_are ∙ e));
}

frees_as : {A : Type 0} (F : Format A) (h h' p c c' : ℕ) → h ≡ h' → c ≡ c' → Frees h p c F → Frees h' p c' F
frees_as F h h' p c c' e f r = rw (← e, ← f) r

module _ {A : Type 0} (F : Format A) (share p c most : ℕ) (f : Costs p c F) (share_fits : share ≤ most) (peak_fits : p ≤ most) (cost_fits : c ≤ most) where
  elements_free : (n : ℕ) → Frees (n * share) (n * most) (n * c) (elements n share F)
  elements_free zero = frees_as (pure []) 0 (zero * share) (zero * most) 0 (zero * c) (omega arith) (omega arith) (costs_free 0 0 (zero * most) 0 (pure []) refl (omega arith) (pure-costs []))
  elements_free (suc n) =
      let held : suc n * share ≡ n * share + share = omega arith in
      let peak : suc n * most ≡ n * most + most = omega arith in
      let cost : suc n * c ≡ n * c + c = omega arith in
      let room : n * share ≤ n * most = mul-le-mul_left n share_fits in
      frees_as _ (share + (0 + (n * share + 0))) (suc n * share) (suc n * most) (0 + (c + (n * c + 0))) (suc n * c) (omega arith) (omega arith)
      (turn_frees (step (Release share)) (λ _. without_count F >>= λ a. map_format (λ others. a ∷ others) (elements n share F))
      (suc n * most) share share 0 (0 + (n * share + 0)) (suc n * most) (c + (n * c + 0)) (omega arith) (omega arith) (release_frees share share (omega arith))
      (λ _. turn_frees (without_count F) (λ a. map_format (λ others. a ∷ others) (elements n share F))
      (suc n * most) 0 p c (n * share + 0) (n * most) (n * c + 0) (omega arith) (omega arith) (costs_free 0 p p c (without_count F) refl (omega arith) (without_count-costs p c F f))
      (λ a. turn_frees (elements n share F) (λ others. pure (a ∷ others)) (n * most) (n * share) (n * most) (n * c) 0 0 0 (omega arith) (omega (arith, mul-le-mul_left n cost_fits))
      (elements_free n) (λ others. costs_free 0 0 0 0 (pure (a ∷ others)) refl (omega arith) (pure-costs (a ∷ others))))))

stays_after : (n share k peak : ℕ) (s more front : List Step) → n * share ≡ k → s ≡ Reserve n share ∷ [] → charged_bytes more + reserved_bytes more + k ≤ peak + released_bytes more → front ≡ s ++ more →
    charged_bytes front + reserved_bytes front ≤ peak + released_bytes front
stays_after n share k peak s more front same e a i =
    let b : reserved_bytes s ≡ n * share + 0 = ap reserved_bytes e in
    let c : charged_bytes s ≡ 0 = ap charged_bytes e in
    let d : released_bytes s ≡ 0 = ap released_bytes e in
    rw i (omega (arith, full_append s more, reserved_append s more, released_append s more))

sequence_stays : (n share k peak : ℕ) (s t front : List Step) → n * share ≡ k → k ≤ peak → s ≡ Reserve n share ∷ [] → ((front back : List Step) → t ≡ front ++ back → charged_bytes front + reserved_bytes front + k ≤ peak + released_bytes front) →
    FrontOfBoth s t front → charged_bytes front + reserved_bytes front ≤ peak + released_bytes front
sequence_stays n share k peak s t [] same h e y f = omega arith
sequence_stays n share k peak s t (x ∷ []) same h e y (in_first back i) = let p : x ≡ Reserve n share = cc in rw p (omega arith)
sequence_stays n share k peak s t (x ∷ (z ∷ front)) same h e y (in_first back i) = absurd (cc)
sequence_stays n share k peak s t (x ∷ front) same h e y (in_second more back i j) = stays_after n share k peak s more (x ∷ front) same e (y more back j) i

reserve_costs : {A : Type 0} (n share peak cost : ℕ) (F : Format A) → n * share ≤ peak → Frees (n * share) peak cost F → Costs peak cost (step (Reserve n share) >>= λ _. F)
unfolding ◌>>=◌ step
reserve_costs n share peak cost F h f = record {
  charges = λ word m s w.
      let a = f.charges w.second m w.second_steps w.second_word in
      let b : charged_bytes w.first_steps ≡ 0 = ap charged_bytes w.first_word.1 in
      rw w.steps_are (omega (arith, full_append w.first_steps w.second_steps));
  evens = λ word m s w.
      let a = f.evens w.second m w.second_steps w.second_word in
      let b : reserved_bytes w.first_steps ≡ n * share + 0 = ap reserved_bytes w.first_word.1 in
      let c : released_bytes w.first_steps ≡ 0 = ap released_bytes w.first_word.1 in
      rw w.steps_are (omega (arith, reserved_append w.first_steps w.second_steps, released_append w.first_steps w.second_steps));
  stays = λ word m s w front back e.
      sequence_stays n share (n * share) peak w.first_steps w.second_steps front refl h w.first_word.1 (f.stays w.second m w.second_steps w.second_word)
      (front_of_both w.first_steps w.second_steps front back (sym w.steps_are ∙ e));
}

-- n elements charge n times what one does; of their room and what they charge no more than n times the greater is held
-- at once
pub array-costs : (F : Format Meaning) (n share peak cost most : ℕ) → share ≤ most → peak ≤ most → cost ≤ most → Costs peak cost F → Costs (n * most) (n * cost) (array n share F)
array-costs F n share peak cost most h i j f =
    map-costs (n * most) (n * cost) list_meaning (sequence n share F)
    (reserve_costs n share (n * most) (n * cost) (elements n share F) (mul-le-mul_left n h) (elements_free F share peak cost most f h i j n))

-- under a limit the room of a list's items is within it
pub list-room : {A : Type 0} (s : Setting) (share : ℕ) (F : Format Meaning) (limit : ℕ) (word : List ℕ) (m : Meaning) (steps : List Step) → (list s share F).Word word m steps →
    StaysWithin (Some limit) 0 steps → (DecodesTo : A → Meaning → Type 0) (vs : List A) → IsListOf DecodesTo vs m → length vs * share ≤ limit
unfolding ◌>>=◌ step
list-room s share F limit word m steps w within DecodesTo vs given =
    let n : length vs ≡ w.head = array-word_length share F DecodesTo vs w.head w.second m w.second_steps w.second_word given in
    let a = w.second_word in
    let q = a.first_word in
    let room = Reserve w.head share in
    let front = w.first_steps ++ room ∷ [] in
    let back = q.second_steps ++ a.second_steps in
    let begun : a.first_steps ≡ room ∷ q.second_steps = q.steps_are ∙ ap (λ z. z ++ q.second_steps) q.first_word.1 in
    let parts : steps ≡ front ++ back =
    w.steps_are ∙ ap (λ z. w.first_steps ++ z) (a.steps_are ∙ ap (λ z. z ++ a.second_steps) begun) ∙ sym (append_assoc w.first_steps (room ∷ []) back) in
    let top : charge_after 0 front ≤ limit = within front back parts in
    let even = (unsigned-costs integers.U64 8 s).evens w.first w.head w.first_steps w.first_word in
    rw n (omega (arith, even, top, full_append w.first_steps (room ∷ []), reserved_append w.first_steps (room ∷ []), released_append w.first_steps (room ∷ [])))
