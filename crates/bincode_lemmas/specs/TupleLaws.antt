-- The laws of tuples, each from those of the first part and the others.
use Rattle.std.specs.Prelude.{◌≡◌, ◌⊎◌, ◌<◌, [], ◌++◌, Bool, true, ◌&&◌, Result, Ok, refl}
use Rattle.std.proofs.Common.{sym, ◌∙◌, ap, subst, inl, inr}
use Rattle.std.proofs.lemmas.List.Elements.{All-nil, All-append}
use Rattle.bincode_spec.specs.Fault.{Fault}
use Rattle.bincode_spec.specs.Format.{Format, ◌>>=◌, map_format}
use Rattle.bincode_spec.specs.Layers.Laws.{IsLawful, IsBalanced}
use Rattle.bincode_lemmas.specs.FormatLaws.{pure-lawful, turn-lawful, map-lawful}
use Rattle.bincode_lemmas.specs.Balance.{pure-holds, turn-holds, map-balanced}
use Rattle.bincode_spec.specs.Meaning.{Meaning, Nothing, Then, IsNothing, IsThen, IsFourThen}
use Rattle.bincode_spec.specs.Words.{nothing, first_and, four_and}
use Rattle.bincode_spec.specs.Allowed.{AllowedWord, SomeWord, OneLength, NoneShorter, IsShortest}
use Rattle.bincode_lemmas.specs.Sequences.{Both}
use Rattle.bincode_lemmas.specs.AllowedLaws.{tuple-allows, allowed-tuple, nothing-allows, allowed-nothing, alone-one_length, both-one_length, same-one_length, fewer-none_shorter}
use Rattle.bincode_lemmas.specs.SpelledLaws.{word-from_result, from_result-word, parts-no_longer, nothing-none_shorter}
use Rattle.bincode_spec.specs.Cells.{HasWord}
use Rattle.bincode_lemmas.specs.CellLaws.{cell-has_word, held-word, word-held}
use Rattle.bincode_spec.specs.Forms.{units}
use Rattle.bincode_lemmas.specs.FormLaws.{FormLaws}
use Rattle.bincode_lemmas.specs.NeedLaws.{nothing-needs}
use Rattle.bincode_lemmas.specs.ChargedLaws.{nothing-charged}

-- a tuple is lawful
pub nothing-lawful : IsLawful nothing
unfolding nothing
nothing-lawful = pure-lawful Nothing

pub then-lawful : {F others : Format Meaning} → IsLawful F → IsLawful others → IsLawful (first_and F others)
unfolding first_and
then-lawful {F} {others} f g = turn-lawful F (λ m. map_format (Then m) others) f (λ m. map-lawful (Then m) others g)

-- and balanced
pub nothing-balanced : IsBalanced nothing
unfolding nothing
nothing-balanced = pure-holds 0 Nothing

pub then-balanced : {F others : Format Meaning} → IsBalanced F → IsBalanced others → IsBalanced (first_and F others)
unfolding first_and
then-balanced {F} {others} f g = turn-holds 0 0 0 F (λ m. map_format (Then m) others) f (λ m. map-balanced (Then m) others g)

-- it has an allowed word
pub then-has_word : {P Q : Meaning → Type 0} {F others : Format Meaning} → SomeWord (AllowedWord P F) → SomeWord (AllowedWord Q others) → SomeWord (AllowedWord (IsThen P Q) (first_and F others))
then-has_word {P} {Q} {F} {others} x y = record {
  bytes = x.bytes ++ y.bytes;
  are_bytes = All-append (λ b. b < 256) x.bytes y.bytes x.are_bytes y.are_bytes;
  is_allowed = tuple-allows P Q F others (x.bytes ++ y.bytes) (x.bytes, y.bytes, refl, x.is_allowed, y.is_allowed);
}

-- and so has a cell of it, if cells of its parts have
pub then-some_word : (F others : Format Meaning) → HasWord F → HasWord others → HasWord (first_and F others)
unfolding first_and ◌>>=◌
then-some_word F others x y =
    let a = held-word F x in
    let b = held-word others y in
    word-held (first_and F others) (x.bytes ++ y.bytes) (Then a.0 b.0) (a.1 ++ b.1) (All-append (λ b. b < 256) x.bytes y.bytes x.are_bytes y.are_bytes) (record {
      first = x.bytes;
      second = y.bytes;
      head = a.0;
      first_steps = a.1;
      second_steps = b.1;
      bytes_are = refl;
      steps_are = refl;
      first_word = a.2;
      second_word = from_result-word (λ m. Ok (Then a.0 m)) others y.bytes b.0 (Then a.0 b.0) b.1 refl b.2;
    })

-- its words have one length
pub then-one_length : {P Q : Meaning → Type 0} {F others : Format Meaning} → OneLength (AllowedWord P F) → OneLength (AllowedWord Q others) → OneLength (AllowedWord (IsThen P Q) (first_and F others))
then-one_length {P} {Q} {F} {others} f g =
    same-one_length (Both (AllowedWord P F) (AllowedWord Q others)) (AllowedWord (IsThen P Q) (first_and F others)) (allowed-tuple P Q F others)
    (both-one_length (AllowedWord P F) (AllowedWord Q others) f g)

-- what follows of both parts follows of either
pub either : {A B C : Type 0} → (A → C) → (B → C) → A ⊎ B → C
either f g (inl a) = f a
either f g (inr b) = g b

-- what has one meaning under both is equal
abbrev pub SameIn : (Meaning → Type 0) → (Meaning → Type 0) → Bool → Type 0
SameIn P Q equal = (m : Meaning) → P m → Q m → equal ≡ true

-- a tuple is equal if its first part is and the others are
pub then-same : {P Q P' Q' : Meaning → Type 0} {x y : Bool} → SameIn P Q x → SameIn P' Q' y → SameIn (IsThen P P') (IsThen Q Q') (x && y)
then-same {P} {Q} {P'} {Q'} {x} {y} f g m p q =
    let e : Then p.first p.others ≡ Then q.first q.others = sym p.meaning_is ∙ q.meaning_is in
    let a : p.first ≡ q.first = cc in
    let b : p.others ≡ q.others = cc in
    rw (f q.first (subst P a p.is_first) q.is_first, g q.others (subst P' b p.are_others) q.are_others) refl

-- no word of it is shorter, if none of its first part is and none of the others
pub then-none_shorter : {P Q P' Q' : Meaning → Type 0} {F others : Format Meaning} → NoneShorter P P' F → NoneShorter Q Q' others → NoneShorter (IsThen P Q) (IsThen P' Q') (first_and F others)
unfolding first_and ◌>>=◌
then-none_shorter {P} {Q} {P'} {Q'} {F} {others} f g written bytes m s w h u e =
    let b = allowed-tuple P Q F others written w in
    let t = word-from_result (λ k. Ok (Then u.head k)) others u.second m u.second_steps u.second_word in
    let i : ◌≡◌ {A = Result Meaning Fault} (Ok (Then u.head t.0)) (Ok (Then e.first e.others)) = t.2 ∙ ap Ok e.meaning_is in
    let j : e.first ≡ u.head = cc in
    let k : e.others ≡ t.0 = cc in
    parts-no_longer written bytes b.0 b.1 u.first u.second b.2 u.bytes_are h
    (λ below. f b.0 u.first u.head u.first_steps b.3 below u.first_word (subst P' j e.is_first))
    (λ below. g b.1 u.second t.0 t.1 b.4 below t.3 (subst Q' k e.are_others))

-- and none that decodes to what it decodes to
both_then : {P Q P' Q' : Meaning → Type 0} (m : Meaning) → IsThen P Q m × IsThen P' Q' m → IsThen (λ n. P n × P' n) (λ n. Q n × Q' n) m
both_then {P} {Q} {P'} {Q'} m b =
    let p = b.0 in
    let q = b.1 in
    let e : Then q.first q.others ≡ Then p.first p.others = sym q.meaning_is ∙ p.meaning_is in
    let j : q.first ≡ p.first = cc in
    let k : q.others ≡ p.others = cc in
    record { first = p.first; others = p.others; meaning_is = p.meaning_is; is_first = (p.is_first, subst P' j q.is_first); are_others = (p.are_others, subst Q' k q.are_others) }

pub then-shortest : {P Q P' Q' : Meaning → Type 0} {F others : Format Meaning} → IsShortest P P' F → IsShortest Q Q' others → IsShortest (IsThen P Q) (IsThen P' Q') (first_and F others)
then-shortest f g = fewer-none_shorter both_then (λ m h. h) (then-none_shorter f g)

-- no parts
pub units-laws : FormLaws units
units-laws = record {
  lawful = λ s. nothing-lawful;
  balanced = λ s. nothing-balanced;
  spelled = λ s v h. record {
    has_word = record { bytes = []; are_bytes = All-nil (λ b. b < 256); is_allowed = nothing-allows };
    one_length = alone-one_length
        (AllowedWord IsNothing nothing) [] allowed-nothing;
    none_shorter = nothing-none_shorter;
  };
  one_meaning = λ v w m n h k l. l;
  some_word = λ s. cell-has_word nothing nothing-lawful _ (record { bytes = []; are_bytes = All-nil (λ b. b < 256); is_allowed = nothing-allows });
  needs = λ s. nothing-needs;
  charges_enough = λ s. nothing-charged;
}

-- the laws of four parts and the others
module _ {F G H I others : Format Meaning} where
  pub four-lawful : IsLawful F → IsLawful G → IsLawful H → IsLawful I → IsLawful others → IsLawful (four_and F G H I others)
  four-lawful f g h i o = then-lawful f (then-lawful g (then-lawful h (then-lawful i o)))

  pub four-balanced : IsBalanced F → IsBalanced G → IsBalanced H → IsBalanced I → IsBalanced others → IsBalanced (four_and F G H I others)
  four-balanced f g h i o = then-balanced f (then-balanced g (then-balanced h (then-balanced i o)))

  module _ {P Q R S T : Meaning → Type 0} where
    pub four-has_word : SomeWord (AllowedWord P F) → SomeWord (AllowedWord Q G) → SomeWord (AllowedWord R H) → SomeWord (AllowedWord S I) →
        SomeWord (AllowedWord T others) → SomeWord (AllowedWord (IsFourThen P Q R S T) (four_and F G H I others))
    four-has_word f g h i o = then-has_word f (then-has_word g (then-has_word h (then-has_word i o)))

    pub four-one_length : OneLength (AllowedWord P F) → OneLength (AllowedWord Q G) → OneLength (AllowedWord R H) → OneLength (AllowedWord S I) →
        OneLength (AllowedWord T others) → OneLength (AllowedWord (IsFourThen P Q R S T) (four_and F G H I others))
    four-one_length f g h i o = then-one_length f (then-one_length g (then-one_length h (then-one_length i o)))

    pub four-shortest : {P' Q' R' S' T' : Meaning → Type 0} → IsShortest P P' F → IsShortest Q Q' G → IsShortest R R' H → IsShortest S S' I →
        IsShortest T T' others → IsShortest (IsFourThen P Q R S T) (IsFourThen P' Q' R' S' T') (four_and F G H I others)
    four-shortest f g h i o = then-shortest f (then-shortest g (then-shortest h (then-shortest i o)))

pub four-same : {P Q R S T P' Q' R' S' T' : Meaning → Type 0} {x y z u v : Bool} → SameIn P P' x → SameIn Q Q' y → SameIn R R' z → SameIn S S' u →
    SameIn T T' v → SameIn (IsFourThen P Q R S T) (IsFourThen P' Q' R' S' T') (x && (y && (z && (u && v))))
four-same f g h i o = then-same f (then-same g (then-same h (then-same i o)))
