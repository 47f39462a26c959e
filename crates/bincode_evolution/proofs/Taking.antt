-- Formats that read all words of others, from their parts.
use Rattle.std.specs.Prelude.{◌≡◌, ℕ, zero, suc, Bool, true, false, List, [], ◌∷◌, ◌++◌, refl}
use Rattle.std.proofs.Common.{◌∙◌, ap, sym, subst}
use Rattle.bincode_spec.specs.Charge.{Step, Reserve, Release}
use Rattle.bincode_spec.specs.Fault.{Fault}
use Rattle.bincode_spec.specs.Format.{Format, Reading, Took, Failed, after_steps, then_read, reading_without_count, pure, fail, step, ◌>>=◌, written_as, without_count, map_format, elements}
use Rattle.bincode_spec.specs.Meaning.{Meaning, Then, list_meaning}
use Rattle.bincode_spec.specs.Words.{first_and, if_picked, array}
use Rattle.bincode_evolution.specs.Reading.{ReadsTo, ReadsAll}

-- what is taken in turn
pub record TakesBoth {A B : Type 0} (F : Format A) (G : A → Format B) (input : List ℕ) (m : B) (remaining : List ℕ) : Type 0 where
  pub head : A
  pub middle : List ℕ
  pub first : ReadsTo (F.read input) head middle
  pub second : ReadsTo ((G head).read middle) m remaining

took_after : {B : Type 0} (s : List Step) (r : Reading B) (m : B) (remaining : List ℕ) → ReadsTo (after_steps s r) m remaining → ReadsTo r m remaining
took_after s (Took n more u) m remaining t = (u, let e = t.1 in cc)
took_after s (Failed why u) m remaining t = let e = t.1 in absurd (cc)

took_both : {A B : Type 0} (G : A → Format B) (r : Reading A) (m : B) (remaining : List ℕ) → ReadsTo (then_read r (λ head rest. (G head).read rest)) m remaining →
    (head : A) × (middle : List ℕ) × ReadsTo r head middle × ReadsTo ((G head).read middle) m remaining
took_both G (Took head middle s) m remaining t = (head, middle, (s, refl), took_after s ((G head).read middle) m remaining t)
took_both G (Failed why s) m remaining t = let e = t.1 in absurd (cc)

pub taken_in_turn : {A B : Type 0} (F : Format A) (G : A → Format B) (input : List ℕ) (m : B) (remaining : List ℕ) → ReadsTo ((F >>= G).read input) m remaining → TakesBoth F G input m remaining
unfolding ◌>>=◌
taken_in_turn F G input m remaining t =
    let p = took_both G (F.read input) m remaining t in record { head = p.0; middle = p.1; first = p.2; second = p.3 }

pub takes_in_turn : {A B : Type 0} (F : Format A) (G : A → Format B) (input : List ℕ) (m : B) (remaining : List ℕ) → TakesBoth F G input m remaining → ReadsTo ((F >>= G).read input) m remaining
unfolding ◌>>=◌
takes_in_turn F G input m remaining t =
    (t.first.0 ++ t.second.0, ap (λ r. then_read r (λ head rest. (G head).read rest)) t.first.1 ∙ ap (after_steps t.first.0) t.second.1)

-- nothing is taken
pub takes_pure : {A : Type 0} (a : A) (input : List ℕ) → ReadsTo ((pure a).read input) a input
unfolding pure
takes_pure a input = ([], refl)

pub taken_pure : {A : Type 0} (a : A) (input : List ℕ) (m : A) (remaining : List ℕ) → ReadsTo ((pure a).read input) m remaining → (m ≡ a) × (remaining ≡ input)
unfolding pure
taken_pure a input m remaining t = let e = t.1 in (cc, cc)

pub takes_step : (change : Step) (input : List ℕ) → ReadsTo ((step change).read input) tt input
unfolding step
takes_step change input = (change ∷ [], refl)

-- after a step the word is taken
pub takes_stepped : {A : Type 0} (change : Step) (F : Format A) (input : List ℕ) (m : A) (remaining : List ℕ) → ReadsTo (F.read input) m remaining → ReadsTo ((step change >>= λ _. F).read input) m remaining
takes_stepped change F input m remaining t =
    takes_in_turn (step change) (λ _. F) input m remaining (record { head = tt; middle = input; first = takes_step change input; second = t })

pub taken_stepped : {A : Type 0} (change : Step) (F : Format A) (input : List ℕ) (m : A) (remaining : List ℕ) → ReadsTo ((step change >>= λ _. F).read input) m remaining → ReadsTo (F.read input) m remaining
unfolding step ◌>>=◌
taken_stepped change F input m remaining t = took_after (change ∷ []) (F.read input) m remaining t

-- what a meaning becomes
pub takes_map : {A B : Type 0} (f : A → B) (F : Format A) (input : List ℕ) (a : A) (remaining : List ℕ) → ReadsTo (F.read input) a remaining → ReadsTo ((map_format f F).read input) (f a) remaining
takes_map f F input a remaining t =
    takes_in_turn F (λ z. pure (f z)) input (f a) remaining (record { head = a; middle = remaining; first = t; second = takes_pure (f a) remaining })

pub taken_map : {A B : Type 0} (f : A → B) (F : Format A) (input : List ℕ) (b : B) (remaining : List ℕ) → ReadsTo ((map_format f F).read input) b remaining →
    (a : A) × (b ≡ f a) × ReadsTo (F.read input) a remaining
taken_map f F input b remaining t =
    let p = taken_in_turn F (λ z. pure (f z)) input b remaining t in
    let q = taken_pure (f p.head) p.middle b remaining p.second in
    (p.head, q.0, subst (λ z. ReadsTo (F.read input) p.head z) (sym q.1) p.first)

took_without : {A : Type 0} (r : Reading A) (m : A) (remaining : List ℕ) → ReadsTo (reading_without_count r) m remaining → ReadsTo r m remaining
took_without (Took n more s) m remaining t = t
took_without (Failed why s) m remaining t = let e = t.1 in absurd (cc)

pub taken_without_count : {A : Type 0} (F : Format A) (input : List ℕ) (m : A) (remaining : List ℕ) → ReadsTo ((without_count F).read input) m remaining → ReadsTo (F.read input) m remaining
unfolding without_count
taken_without_count F input m remaining t = took_without (F.read input) m remaining t

pub takes_without_count : {A : Type 0} (F : Format A) (input : List ℕ) (m : A) (remaining : List ℕ) → ReadsTo (F.read input) m remaining → ReadsTo ((without_count F).read input) m remaining
unfolding without_count
takes_without_count F input m remaining t = (t.0, ap reading_without_count t.1)

-- each format reads its own words
pub reads_itself : {A : Type 0} (F : Format A) → ReadsAll F F
reads_itself F = record { reads = λ input remaining m t. t }

-- what is written does not matter
pub reads_written : {A : Type 0} {F G : Format A} (C D : List ℕ → A → Type 0) → ReadsAll G F → ReadsAll (written_as D G) (written_as C F)
unfolding written_as
reads_written C D h = record { reads = h.reads }

-- a word of one, then of another
pub reads_in_turn : {A B : Type 0} {F F' : Format A} {G G' : A → Format B} → ReadsAll F' F → ((a : A) → ReadsAll (G' a) (G a)) → ReadsAll (F' >>= G') (F >>= G)
reads_in_turn {A} {B} {F} {F'} {G} {G'} f g = record {
  reads = λ input remaining m t.
      let p = taken_in_turn F G input m remaining t in
      takes_in_turn F' G' input m remaining (record {
        head = p.head;
        middle = p.middle;
        first = f.reads input p.middle p.head p.first;
        second = (g p.head).reads p.middle remaining m p.second;
      });
}

pub reads_map : {A B : Type 0} (f : A → B) {F G : Format A} → ReadsAll G F → ReadsAll (map_format f G) (map_format f F)
reads_map f h = reads_in_turn h (λ a. reads_itself (pure (f a)))

-- steps do not matter
pub reads_stepped : {A : Type 0} (old new : Step) {F G : Format A} → ReadsAll G F → ReadsAll (step new >>= λ _. G) (step old >>= λ _. F)
reads_stepped old new {F} {G} h = record {
  reads = λ input remaining m t. takes_stepped new G input m remaining (h.reads input remaining m (taken_stepped old F input m remaining t));
}

pub reads_without_count : {A : Type 0} {F G : Format A} → ReadsAll G F → ReadsAll (without_count G) (without_count F)
reads_without_count {A} {F} {G} h = record {
  reads = λ input remaining m t. takes_without_count G input m remaining (h.reads input remaining m (taken_without_count F input m remaining t));
}

-- elements, whatever they claim
pub reads_elements : {A : Type 0} (n old new : ℕ) {F G : Format A} → ReadsAll G F → ReadsAll (elements n new G) (elements n old F)
reads_elements zero old new h = reads_itself (pure [])
reads_elements (suc n) old new h =
    reads_stepped (Release old) (Release new) (reads_in_turn (reads_without_count h) (λ a. reads_map (λ others. a ∷ others) (reads_elements n old new h)))

pub reads_array : (n old new : ℕ) {F G : Format Meaning} → ReadsAll G F → ReadsAll (array n new G) (array n old F)
reads_array n old new h = reads_map list_meaning (reads_stepped (Reserve n old) (Reserve n new) (reads_elements n old new h))

pub reads_first_and : {F G others rest : Format Meaning} → ReadsAll G F → ReadsAll rest others → ReadsAll (first_and G rest) (first_and F others)
unfolding first_and
reads_first_and f g = reads_in_turn f (λ m. reads_map (Then m) g)

pub reads_through : {A : Type 0} {F G H : Format A} → ReadsAll G F → ReadsAll H G → ReadsAll H F
reads_through f g = record { reads = λ input remaining m t. g.reads input remaining m (f.reads input remaining m t) }

pub reads_picked : (b : Bool) {F F' G G' : Format Meaning} → ReadsAll F' F → ReadsAll G' G → ReadsAll (if_picked b F' G') (if_picked b F G)
reads_picked true f g = f
reads_picked false f g = g

-- no input begins with a word
pub record NoWord {A : Type 0} (F : Format A) : Type 0 where
  pub none : (input remaining : List ℕ) (m : A) → ReadsTo (F.read input) m remaining → ⊥

-- and then each format reads all words
pub reads_none : {A : Type 0} {F : Format A} (G : Format A) → NoWord F → ReadsAll G F
reads_none G h = record { reads = λ input remaining m t. absurd (h.none input remaining m t) }

pub none_first : {A B : Type 0} {F : Format A} (G : A → Format B) → NoWord F → NoWord (F >>= G)
none_first {A} {B} {F} G h = record {
  none = λ input remaining m t. let p = taken_in_turn F G input m remaining t in h.none input p.middle p.head p.first;
}

pub none_second : {A B : Type 0} (F : Format A) {G : A → Format B} → ((a : A) → NoWord (G a)) → NoWord (F >>= G)
none_second F {G} h = record {
  none = λ input remaining m t. let p = taken_in_turn F G input m remaining t in (h p.head).none p.middle remaining m p.second;
}

pub none_map : {A B : Type 0} (f : A → B) {F : Format A} → NoWord F → NoWord (map_format f F)
none_map f h = none_first (λ a. pure (f a)) h

pub none_failed : {A : Type 0} (why : Fault) → NoWord (fail {A = A} why)
unfolding fail
none_failed why = record { none = λ input remaining m t. let e = t.1 in absurd (cc) }

pub none_picked : (b : Bool) {F G : Format Meaning} → NoWord F → NoWord G → NoWord (if_picked b F G)
none_picked true f g = f
none_picked false f g = g

pub none_array : (n share : ℕ) {F : Format Meaning} → NoWord F → NoWord (array (suc n) share F)
none_array n share {F} h = none_map list_meaning (none_second (step (Reserve (suc n) share)) (λ _. none_second (step (Release share)) (λ _. none_first _ (record {
  none = λ input remaining m t. h.none input remaining m (taken_without_count F input m remaining t);
}))))

pub none_first_and : {F : Format Meaning} (others : Format Meaning) → NoWord F → NoWord (first_and F others)
unfolding first_and
none_first_and others h = none_first _ h

pub none_others : (F : Format Meaning) {others : Format Meaning} → NoWord others → NoWord (first_and F others)
unfolding first_and
none_others F h = none_second F (λ m. none_map (Then m) h)
