-- What was taken from a stream for a frame.
use Rattle.std.specs.Prelude.{◌≡◌, ◌+◌, ◌<◌, ◌≤◌, ◌++◌, ℕ, List, [], length, take, drop, Option, Some, None, refl}
use Rattle.std.specs.Io.{StartsWith}
use Rattle.std.specs.Io.KnownBytes.{Consumes, IsAtEnd, Keeps}
use Rattle.std.specs.Int.{w32, from_le_bytes}
use Rattle.std.proofs.Common.{◌∙◌, ap, sym, subst, arith, inl, inr, append-nil, length-append, length-take-le, drop_at, take_all}
use Rattle.std.proofs.KnownBytes.{Consumes-more, Consumes-trans, starts_with_rest}
use Rattle.std.proofs.Transfers.{starts_with_trans, starts_with_length}
use Rattle.std.proofs.lemmas.List.{drop-take, take-take, drop-drop, length-drop}
use mathlib.Core.Logic.{dite}
use native.Mathlib.Decide.{dec_le}
use Rattle.bincode_io.specs.Stream.{TellsBytes, known_bytes}
use Rattle.frames.specs.Frames.{Reads, IsThere, named_length}
use Rattle.frames.specs.declared.Frame.{Frame}
use Rattle.frames.specs.declared.Frame.TheVariants as frames
use Rattle.framed_store.specs.declared.ending.Ending.{Ending}
use Rattle.framed_store.specs.declared.ending.Ending.TheVariants as endings
use Rattle.framed_store.specs.Steps.{IsWhole, IsDamaged, EndsAt}
use Rattle.framed_store.specs.Streams.{IsFront, TakesFront}
use Rattle.framed_store.specs.Surveys.{IsSurvey}
use Rattle.framed_store.proofs.Fronts.{same-length, same-word, same-check, same-framed, damaged-on}
use Rattle.framed_store.proofs.Stepped.{Counted, counted-whole-on, counted-damaged-on, surveyed, cut-whole}

-- known bytes stay known
pub known-on : (a b : Option (List ℕ)) (bs : List ℕ) → Consumes a b bs → TellsBytes a → TellsBytes b
known-on None b bs h tells = absurd tells
known-on (Some xs) None bs h tells = absurd h
known-on (Some xs) (Some ys) bs h tells = tt

pub kept-on : (a b : Option (List ℕ)) → Keeps a b → TellsBytes a → TellsBytes b
kept-on None b h tells = absurd tells
kept-on (Some xs) None h tells = absurd h
kept-on (Some xs) (Some ys) h tells = tt

-- they are what was taken, and what is left
pub given : (a b : Option (List ℕ)) (bs : List ℕ) → Consumes a b bs → TellsBytes a → known_bytes a ≡ bs ++ known_bytes b
given None b bs h tells = absurd tells
given (Some xs) None bs h tells = absurd h
given (Some xs) (Some ys) bs h tells = h

pub none-left : (a : Option (List ℕ)) → IsAtEnd a → known_bytes a ≡ []
none-left None h = refl
none-left (Some xs) h = h

-- xs was filled up to f, and ys has that front and n bytes more
pub filled-more : (a b c : Option (List ℕ)) (old xs ys : List ℕ) (f n : ℕ) → f ≤ length ys → take f ys ≡ take f xs → StartsWith (take f xs) old →
    Consumes a b (drop (length old) (take f xs)) → Consumes b c (take n (drop f ys)) → StartsWith (take (f + n) ys) old × Consumes a c (drop (length old) (take (f + n) ys))
filled-more a b c old xs ys f n within front starts before read =
    let len : length (take f xs) ≡ f = sym (ap length front) ∙ length-take-le f ys within in
    let more : StartsWith (take (f + n) ys) (take f xs) = ap (λ k. take k (take (f + n) ys)) len ∙ take-take f (f + n) ys (omega arith) ∙ front in
    let rest = ap (λ k. drop k (take (f + n) ys)) len ∙ drop-take f n ys in
    (starts_with_trans _ _ _ more starts, Consumes-more a b c old _ _ starts more before (subst (Consumes b c) (sym rest) read))

-- the length alone was taken
pub length-taken : (most : ℕ) (a b : Option (List ℕ)) (front : List ℕ) → length front ≤ 4 → (4 ≤ length front → most < named_length front) → (length front < 4 → IsAtEnd b) → Consumes a b front →
    TellsBytes a → TakesFront most front (known_bytes a) (known_bytes b)
length-taken most a b front four long end read tells = record {
  parts = given a b front read tells;
  is_front = record {
    ends_early = λ fewer. none-left b (end fewer);
    too_long = λ there over. omega (arith, four, there);
    within = λ there fits. let over = long there in absurd (omega (arith, over, fits));
    ends_within = λ there fits _. let over = long there in absurd (omega (arith, over, fits));
  };
}

-- after the length the rest of the frame was taken
pub frame-taken : (most size : ℕ) (a b c : Option (List ℕ)) (four front : List ℕ) → length four ≡ 4 → named_length four ≤ most → size ≡ 8 + named_length four → Consumes a b four →
    StartsWith front four → Consumes b c (drop (length four) front) → length front ≤ size → (length front < size → IsAtEnd c) → TellsBytes a →
    TakesFront most front (known_bytes a) (known_bytes c)
frame-taken most size a b c four front is_four fits is_size first starts second within end tells =
    let whole : four ++ drop (length four) front ≡ front = sym (starts_with_rest front four starts) in
    let read = subst (Consumes a c) whole (Consumes-trans a b c four (drop (length four) front) first second) in
    let fronts : take 4 front ≡ take 4 four = ap (λ n. take n front) (sym is_four) ∙ starts ∙ sym (ap (λ n. take n four) (sym is_four) ∙ take_all (length four) four (omega arith)) in
    let name : named_length front ≡ named_length four = ap (from_le_bytes w32) fronts in
    let long = starts_with_length front four starts in record {
      parts = given a c front read tells;
      is_front = record {
        ends_early = λ fewer. absurd (omega (arith, fewer, long, is_four));
        too_long = λ there over. absurd (omega (arith, over, name, fits));
        within = λ there _. omega (arith, within, is_size, name);
        ends_within = λ there _ short. none-left c (end (omega (arith, short, is_size, name)));
      };
    }

-- a whole frame is told alike with what follows it
pub whole-on : (most : ℕ) (bytes rest : List ℕ) (size : ℕ) → IsWhole most bytes size → IsWhole most (bytes ++ rest) size
whole-on most bytes rest size w =
    let there = w.0.1 in
    let four : 4 ≤ length bytes = omega (arith, there) in
    let name = same-length bytes rest four in
    let fits = w.0.0 in
    let all = length-append bytes rest in
    let told = w.1 in (
      (omega (arith, name, fits), omega (arith, name, there, all)),
      omega (arith, name, told),
      same-check bytes rest four there ∙ w.2 ∙ sym (same-framed bytes rest four there),
    )

-- nothing follows what is torn
pub torn-ends : (most : ℕ) (front left : List ℕ) → IsFront most front left → Reads most front frames.Torn → left ≡ []
torn-ends most front left f h =
    elim h.1 [ inl fewer ↦ f.ends_early fewer | inr short ↦ dite (dec_le 4 (length front)) (λ four. f.ends_within four short.0 short.1) (λ fewer. f.ends_early (omega (arith, fewer))) ]

-- what is read of the bytes that were taken is read of all
pub reads-on : (most : ℕ) (front left : List ℕ) → IsFront most front left → (r : Frame) → Reads most front r → Reads most (front ++ left) r
reads-on most front left f frames.End h =
    let none : length front ≡ 0 = ap length h in
    ap (λ z. z ++ left) h ∙ f.ends_early (omega (arith, none))
reads-on most front left f frames.Torn h =
    let none : left ≡ [] = torn-ends most front left f h in
    let same : front ++ left ≡ front = ap (λ z. front ++ z) none ∙ append-nil front in subst (λ z. Reads most z frames.Torn) (sym same) h
reads-on most front left f (frames.TooLong n) h =
    let four = h.0 in
    let name = same-length front left four in
    let all = length-append front left in
    let is = h.1 in (omega (arith, four, all), omega (arith, is, name), h.2)
reads-on most front left f (frames.Damaged size) h = damaged-on most front left size h
reads-on most front left f (frames.Whole word size) h =
    let there = h.0.1 in
    let four : 4 ≤ length front = omega (arith, there) in
    let w = whole-on most front left size (h.0, h.1, h.2) in (w.0, w.1, w.2, h.3 ∙ sym (same-word front left four there))

-- a frame that is there was taken whole
pub taken-whole : (most : ℕ) (front left : List ℕ) (size : ℕ) → IsFront most front left → IsThere most front → size ≡ 8 + named_length front → (length front ≡ size) × (drop size (front ++ left) ≡ left)
taken-whole most front left size f there is_size =
    let fits = there.0 in
    let there = there.1 in
    let most_of = f.within (omega (arith, there)) fits in
    let all : length front ≡ size = omega (arith, there, most_of, is_size) in (all, drop_at front left size all)

-- a store was counted up to what is left of it
pub record Surveyed (most : ℕ) (store : List ℕ) (at whole damaged : ℕ) (left : List ℕ) : Type 0 where
  pub within : at ≤ length store
  pub left_is : left ≡ drop at store
  pub counted : Counted most store whole damaged left

-- one more frame was taken
step-on : (most : ℕ) (store : List ℕ) (at size : ℕ) (front old new : List ℕ) → at ≤ length store → old ≡ drop at store → TakesFront most front old new → IsThere most front → size ≡ 8 + named_length front →
    (at + size ≤ length store) × (new ≡ drop (at + size) store) × (drop size old ≡ new)
step-on most store at size front old new within left_is t there is_size =
    let whole = taken-whole most front new size t.is_front there is_size in
    let all : length old ≡ length front + length new = ap length t.parts ∙ length-append front new in
    let left = length-drop at store in
    let count : length old ≡ length (drop at store) = ap length left_is in
    let is = whole.0 in
    let rest : drop size old ≡ new = ap (drop size) t.parts ∙ whole.1 in
    (omega (arith, all, left, count, is, within), sym rest ∙ ap (drop size) left_is ∙ drop-drop size at store, rest)

pub surveyed-whole : (most : ℕ) (store : List ℕ) (at whole damaged size : ℕ) (front old new : List ℕ) → Surveyed most store at whole damaged old → TakesFront most front old new → IsWhole most front size →
    Surveyed most store (at + size) (whole + 1) damaged new
surveyed-whole most store at whole damaged size front old new s t w =
    let step = step-on most store at size front old new s.within s.left_is t w.0 w.1 in
    let here = subst (λ z. IsWhole most z size) (sym t.parts) (whole-on most front new size w) in record {
      within = step.0;
      left_is = step.1;
      counted = subst (Counted most store (whole + 1) damaged) step.2 (counted-whole-on most store old whole damaged size here s.counted);
    }

pub surveyed-damaged : (most : ℕ) (store : List ℕ) (at whole damaged size : ℕ) (front old new : List ℕ) → Surveyed most store at whole damaged old → TakesFront most front old new →
    IsDamaged most front size → Surveyed most store (at + size) whole (damaged + 1) new
surveyed-damaged most store at whole damaged size front old new s t w =
    let step = step-on most store at size front old new s.within s.left_is t w.0 w.1 in
    let here = subst (λ z. IsDamaged most z size) (sym t.parts) (damaged-on most front new size w) in record {
      within = step.0;
      left_is = step.1;
      counted = subst (Counted most store whole (damaged + 1)) step.2 (counted-damaged-on most store old whole damaged size here s.counted);
    }

-- what was read there tells how the store ends
pub ends-on : (most : ℕ) (front old new : List ℕ) → TakesFront most front old new → (r : Frame) → Reads most front r → Reads most old r
ends-on most front old new t r h = subst (λ z. Reads most z r) (sym t.parts) (reads-on most front new t.is_front r h)

-- the survey, once the end is found
pub survey-ends : (most : ℕ) (store : List ℕ) (at whole damaged : ℕ) (left : List ℕ) (ending : Ending) → Surveyed most store at whole damaged left → EndsAt most at left ending →
    IsSurvey most store (record { whole = whole; damaged = damaged; length = at; ending = ending })
survey-ends most store at whole damaged left ending s ends =
    surveyed most store at whole damaged ending s.within (subst (Counted most store whole damaged) s.left_is s.counted) (subst (λ z. EndsAt most at z ending) s.left_is ends)

pub survey-cut : (most : ℕ) (store : List ℕ) (at whole damaged : ℕ) (left : List ℕ) → Surveyed most store at whole damaged left →
    IsSurvey most (take at store) (record { whole = whole; damaged = damaged; length = at; ending = endings.Whole })
survey-cut most store at whole damaged left s = cut-whole most store at whole damaged s.within (subst (Counted most store whole damaged) s.left_is s.counted)
