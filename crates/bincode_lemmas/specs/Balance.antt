-- Each way to make a format keeps the balance of its steps.
use Rattle.std.specs.Prelude.{◌≡◌, ℕ, zero, suc, ◌+◌, ◌*◌, ◌≤◌, List, [], ◌∷◌, ◌++◌, length, take, drop, refl, nat_lt, Bool, true, false, if◌then◌else◌, Result, Ok, Err}
use Rattle.std.proofs.Common.{subst, arith}
use Rattle.bincode_spec.specs.Fault.{Fault}
use Rattle.bincode_spec.specs.Charge.{Step, Charge, Reserve, Release, charged_bytes, reserved_bytes, released_bytes}
use Rattle.bincode_spec.specs.Format.{Format, Reading, Took, Failed, after_steps, then_read, pure, fail, fixed_bytes, step, ◌>>=◌, reading_without_count, without_count}
use Rattle.bincode_spec.specs.Format.{written_as, from_result, map_format, charge_then, elements, sequence}
use Rattle.bincode_spec.specs.Layers.Laws.{IsLawful, IsBacked, Settles, Holds, IsBalanced}

pub full_append : (s t : List Step) → charged_bytes (s ++ t) ≡ charged_bytes s + charged_bytes t
full_append [] t = omega arith
full_append ((Charge n) ∷ s) t = omega (arith, full_append s t)
full_append ((Reserve n share) ∷ s) t = full_append s t
full_append ((Release n) ∷ s) t = full_append s t

pub reserved_append : (s t : List Step) → reserved_bytes (s ++ t) ≡ reserved_bytes s + reserved_bytes t
reserved_append [] t = omega arith
reserved_append ((Charge n) ∷ s) t = reserved_append s t
reserved_append ((Reserve n share) ∷ s) t = omega (arith, reserved_append s t)
reserved_append ((Release n) ∷ s) t = reserved_append s t

pub released_append : (s t : List Step) → released_bytes (s ++ t) ≡ released_bytes s + released_bytes t
released_append [] t = omega arith
released_append ((Charge n) ∷ s) t = released_append s t
released_append ((Reserve n share) ∷ s) t = released_append s t
released_append ((Release n) ∷ s) t = omega (arith, released_append s t)

-- a front of two lists of steps is a front of the first, or all of it and a front of the second
pub data FrontOfBoth (s t front : List Step) : Type 0 where
  in_first : (back : List Step) → s ≡ front ++ back → FrontOfBoth s t front
  in_second : (more back : List Step) → front ≡ s ++ more → t ≡ more ++ back → FrontOfBoth s t front

front_after : (x y : Step) (s t front : List Step) → x ≡ y → FrontOfBoth s t front → FrontOfBoth (x ∷ s) t (y ∷ front)
front_after x y s t front e (in_first back h) = in_first back (cc)
front_after x y s t front e (in_second more back h k) = in_second more back (cc) k

pub front_of_both : (s t front back : List Step) → s ++ t ≡ front ++ back → FrontOfBoth s t front
front_of_both [] t front back e = in_second front back refl e
front_of_both (x ∷ s) t [] back e = in_first (x ∷ s) refl
front_of_both (x ∷ s) t (y ∷ front) back e = front_after x y s t front (cc) (front_of_both s t front back (cc))

backed_by : (before between : ℕ) (s t front : List Step) → IsBacked before s → before + reserved_bytes s ≡ between + released_bytes s → IsBacked between t →
    FrontOfBoth s t front → released_bytes front ≤ before + reserved_bytes front
backed_by before between s t front h e k (in_first back p) = h front back p
backed_by before between s t front h e k (in_second more back p q) =
    let b : released_bytes more ≤ between + reserved_bytes more = k more back q in
    rw p (omega (arith, reserved_append s more, released_append s more))

backed_append : (before between : ℕ) (s t : List Step) → IsBacked before s → before + reserved_bytes s ≡ between + released_bytes s → IsBacked between t → IsBacked before (s ++ t)
backed_append before between s t h e k front back p = backed_by before between s t front h e k (front_of_both s t front back p)

backed_none : (held : ℕ) → IsBacked held []
backed_none held [] back e = omega arith
backed_none held (x ∷ front) back e = absurd (cc)

backed_one : (held : ℕ) (x : Step) → released_bytes (x ∷ []) ≤ held + reserved_bytes (x ∷ []) → IsBacked held (x ∷ [])
backed_one held x h [] back e = omega arith
backed_one held x h (y ∷ []) back e = let p : x ≡ y = cc in subst (λ z. released_bytes (z ∷ []) ≤ held + reserved_bytes (z ∷ [])) p h
backed_one held x h (y ∷ (z ∷ front)) back e = absurd (cc)

-- the empty word leaves what is held
pub pure-holds : {A : Type 0} (held : ℕ) (a : A) → Holds held held (pure a)
unfolding pure
pure-holds held a = record { settles = λ input. (backed_none held, omega arith) }

-- no word leaves what was not held
pub fail-holds : {A : Type 0} (before after : ℕ) (why : Fault) → Holds before after (fail {A = A} why)
unfolding fail
fail-holds before after why = record { settles = λ input. backed_none before }

-- a charge leaves what is held
pub charge-holds : (held n : ℕ) → Holds held held (step (Charge n))
unfolding step
charge-holds held n = record { settles = λ input. (backed_one held (Charge n) (omega arith), omega arith) }

-- what is reserved is held
pub reserve-holds : (held n share : ℕ) → Holds held (held + n * share) (step (Reserve n share))
unfolding step
reserve-holds held n share = record { settles = λ input. (backed_one held (Reserve n share) (omega arith), omega arith) }

-- what is released was held
pub release-holds : (held n : ℕ) → Holds (held + n) held (step (Release n))
unfolding step
release-holds held n = record { settles = λ input. (backed_one (held + n) (Release n) (omega arith), omega arith) }

settles_either : {A : Type 0} (held : ℕ) (test : Bool) (why : Fault) (a : A) (remaining : List ℕ) → Settles held held (if test then Failed why [] else Took a remaining [])
settles_either held true why a remaining = backed_none held
settles_either held false why a remaining = (backed_none held, omega arith)

-- bytes leave what is held
pub fixed_bytes-holds : (held n : ℕ) → Holds held held (fixed_bytes n)
unfolding fixed_bytes
fixed_bytes-holds held n = record { settles = λ input. settles_either held (nat_lt (length input) n) _ (take n input) (drop n input) }

settles_after : {B : Type 0} (before between after : ℕ) (s : List Step) (r : Reading B) → IsBacked before s →
    before + reserved_bytes s ≡ between + released_bytes s → Settles between after r → Settles before after (after_steps s r)
settles_after before between after s (Took b remaining t) h e k =
    let p : between + reserved_bytes t ≡ after + released_bytes t = k.1 in
    (backed_append before between s t h e k.0, omega (arith, reserved_append s t, released_append s t))
settles_after before between after s (Failed why t) h e k = backed_append before between s t h e k

settles_then : {A B : Type 0} (before between after : ℕ) (G : A → Format B) → ((a : A) → Holds between after (G a)) → (r : Reading A) →
    Settles before between r → Settles before after (then_read r (λ a remaining. (G a).read remaining))
settles_then before between after G g (Took a remaining s) h = settles_after before between after s ((G a).read remaining) h.0 h.1 ((g a).settles remaining)
settles_then before between after G g (Failed why s) h = h

-- the second begins with what the first holds
pub turn-holds : {A B : Type 0} (before between after : ℕ) (F : Format A) (G : A → Format B) → Holds before between F → ((a : A) → Holds between after (G a)) → Holds before after (F >>= G)
unfolding ◌>>=◌
turn-holds before between after F G f g = record { settles = λ input. settles_then before between after G g (F.read input) (f.settles input) }

-- which word is written does not matter
pub rewritten-holds : {A : Type 0} (before after : ℕ) (Chosen : List ℕ → A → Type 0) (F : Format A) → Holds before after F → Holds before after (written_as Chosen F)
unfolding written_as
rewritten-holds before after Chosen F f = record { settles = f.settles }

settles_vaguely : {A : Type 0} (before after : ℕ) (r : Reading A) → Settles before after r → Settles before after (reading_without_count r)
settles_vaguely before after (Took a remaining s) h = h
settles_vaguely before after (Failed why s) h = h

-- whether a fault says how many bytes are missing does not matter
pub without_count-holds : {A : Type 0} (before after : ℕ) (F : Format A) → Holds before after F → Holds before after (without_count F)
unfolding without_count
without_count-holds before after F f = record { settles = λ input. settles_vaguely before after (F.read input) (f.settles input) }

backed_more : (held : ℕ) (s : List Step) → IsBacked 0 s → IsBacked held s
backed_more held s h front back e = let k : released_bytes front ≤ 0 + reserved_bytes front = h front back e in omega arith

settles_more : {A : Type 0} (held : ℕ) (r : Reading A) → Settles 0 0 r → Settles held held r
settles_more held (Took a remaining s) h = let e : 0 + reserved_bytes s ≡ 0 + released_bytes s = h.1 in (backed_more held s h.0, omega arith)
settles_more held (Failed why s) h = backed_more held s h

-- a balanced format leaves what is held
pub more-holds : {A : Type 0} (held : ℕ) (F : Format A) → IsBalanced F → Holds held held F
more-holds held F f = record { settles = λ input. settles_more held (F.read input) (f.settles input) }

from_result_holds : {A : Type 0} (held : ℕ) (r : Result A Fault) → Holds held held (from_result r)
from_result_holds held (Ok a) = pure-holds held a
from_result_holds held (Err why) = fail-holds held held why

-- a test of the meaning takes no steps
pub test-balanced : {A B : Type 0} (F : Format A) (test : A → Result B Fault) → IsBalanced F → IsBalanced (F >>= λ a. from_result (test a))
test-balanced F test f = turn-holds 0 0 0 F (λ a. from_result (test a)) f (λ a. from_result_holds 0 (test a))

-- another meaning takes no steps
pub map-balanced : {A B : Type 0} (f : A → B) (F : Format A) → IsBalanced F → IsBalanced (map_format f F)
map-balanced f F h = turn-holds 0 0 0 F (λ a. pure (f a)) h (λ a. pure-holds 0 (f a))

-- a charge before it
pub charge_then-balanced : {A : Type 0} (n : ℕ) (F : Format A) → IsBalanced F → IsBalanced (charge_then n F)
charge_then-balanced n F f = turn-holds 0 0 0 (step (Charge n)) (λ _. F) (charge-holds 0 n) (λ _. f)

-- the elements release the room that was reserved for them
pub elements-holds : {A : Type 0} (n share : ℕ) (F : Format A) → IsBalanced F → Holds (n * share) 0 (elements n share F)
elements-holds zero share F f = let e : 0 * share ≡ 0 = omega arith in rw e (pure-holds 0 [])
elements-holds (suc n) share F f =
    let e : suc n * share ≡ n * share + share = omega arith in
    rw e (turn-holds (n * share + share) (n * share) 0 (step (Release share)) (λ _. without_count F >>= λ a. map_format (λ others. a ∷ others) (elements n share F)) (release-holds (n * share) share)
    (λ _. turn-holds (n * share) (n * share) 0 (without_count F) (λ a. map_format (λ others. a ∷ others) (elements n share F)) (without_count-holds (n * share) (n * share) F (more-holds (n * share) F f))
    (λ a. turn-holds (n * share) 0 0 (elements n share F) (λ others. pure (a ∷ others)) (elements-holds n share F f) (λ others. pure-holds 0 (a ∷ others)))))

-- a sequence releases all that it reserves
pub sequence-balanced : {A : Type 0} (n share : ℕ) (F : Format A) → IsBalanced F → IsBalanced (sequence n share F)
sequence-balanced n share F f =
    turn-holds 0 (0 + n * share) 0 (step (Reserve n share)) (λ _. elements n share F) (reserve-holds 0 n share)
    (λ _. let e : 0 + n * share ≡ n * share = omega arith in rw e (elements-holds n share F f))

-- a word releases all that it reserves, and never before
pub balanced-word : {A : Type 0} (F : Format A) (word : List ℕ) (m : A) (s : List Step) → IsLawful F → IsBalanced F → F.Word word m s → IsBacked 0 s × (reserved_bytes s ≡ released_bytes s)
balanced-word F word m s f b u =
    let p : Settles 0 0 (Took m [] s) = subst (Settles 0 0) (f.word_read word [] m s u) (b.settles (word ++ [])) in
    let e : 0 + reserved_bytes s ≡ 0 + released_bytes s = p.1 in
    (p.0, omega arith)

-- a fault releases nothing before it is reserved
pub balanced-fault : {A : Type 0} (F : Format A) (input : List ℕ) (why : Fault) (s : List Step) → IsLawful F → IsBalanced F → F.Faults input why s → IsBacked 0 s
balanced-fault F input why s f b h = subst (Settles 0 0) (f.fault_read input why s h) (b.settles input)
