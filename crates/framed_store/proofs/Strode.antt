-- Frames that were stepped over, whatever their checks.
use Rattle.std.specs.Prelude.{◌≡◌, ◌≢◌, ◌+◌, ◌<◌, ◌≤◌, ◌++◌, ℕ, List, [], ◌∷◌, length, take, drop, Bool, true, false, Option, refl}
use Rattle.std.specs.Io.KnownBytes.{Consumes, IsAtEnd}
use Rattle.std.specs.Int.{w32, from_le_bytes}
use Rattle.std.proofs.Common.{◌∙◌, ap, sym, subst, arith, inl, inr, append_assoc, append-nil, length-append, length-take-le, take_at, take_all, drop_at}
use Rattle.std.proofs.KnownBytes.{Consumes-trans}
use Rattle.std.proofs.lemmas.List.{length-drop}
use mathlib.Core.Logic.{dite}
use native.Mathlib.Decide.{dec_le}
use Rattle.bincode_io.specs.Stream.{TellsBytes, known_bytes}
use Rattle.frames.specs.Frames.{Reads, IsThere, named_length, named_check, framed_check}
use Rattle.frames.specs.declared.Frame.TheVariants as frames
use Rattle.framed_store.specs.declared.ending.Ending.{Ending}
use Rattle.framed_store.specs.Steps.{EndsAt}
use Rattle.framed_store.specs.Strides.{Skips}
use Rattle.framed_store.specs.Surveys.{frame_size, FramesTo, StepsOver}
use Rattle.framed_store.proofs.Stepped.{frames-whole, frames-damaged}
use Rattle.framed_store.proofs.Taken.{known-on, given, none-left}

-- frames of n bytes were stepped over
pub record Strode (most : ℕ) (store : List ℕ) (n : ℕ) (left : List ℕ) : Type 0 where
  pub fits : List Bool
  pub frames : FramesTo most store fits left
  pub up_to : length store ≡ n + length left

pub none-yet : (most : ℕ) (store : List ℕ) → Strode most store 0 store
none-yet most store = record { fits = []; frames = refl; up_to = omega arith }

counted-up : (most : ℕ) (store : List ℕ) (n size : ℕ) (old new : List ℕ) → Strode most store n old → IsThere most old → size ≡ frame_size old → new ≡ drop size old → length store ≡ (n + size) + length new
counted-up most store n size old new s there is_size is_new =
    let up_to = s.up_to in
    let there = there.1 in
    let left = length-drop size old in
    let count = ap length is_new in omega (arith, up_to, there, left, count, is_size)

-- one more, whose check fits or not
pub one-more : (most : ℕ) (store : List ℕ) (n size : ℕ) (old new : List ℕ) → Strode most store n old → IsThere most old → size ≡ frame_size old → new ≡ drop size old → Strode most store (n + size) new
one-more most store n size old new s there is_size is_new =
    let own : FramesTo most store (s.fits ++ true ∷ []) new → Strode most store (n + size) new = λ f. record { fits = s.fits ++ true ∷ []; frames = f; up_to = counted-up most store n size old new s there is_size is_new } in
    let other : FramesTo most store (s.fits ++ false ∷ []) new → Strode most store (n + size) new = λ f. record { fits = s.fits ++ false ∷ []; frames = f; up_to = counted-up most store n size old new s there is_size is_new } in
    let rest : drop (frame_size old) old ≡ new = ap (λ k. drop k old) (sym is_size) ∙ sym is_new in
    let fit = λ (same : named_check old ≡ framed_check old). own (subst (FramesTo most store (s.fits ++ true ∷ [])) rest (frames-whole most store s.fits old s.frames (there, refl, same))) in
    let unfit = λ (differs : named_check old ≢ framed_check old). other (subst (FramesTo most store (s.fits ++ false ∷ [])) rest (frames-damaged most store s.fits old s.frames (there, refl, differs))) in
    dite (dec_le (named_check old) (framed_check old))
    (λ le. dite (dec_le (framed_check old) (named_check old)) (λ ge. fit (omega (arith, le, ge))) (λ less. unfit (λ same. less (omega (arith, same)))))
    (λ more. unfit (λ same. more (omega (arith, same))))

-- there are no more
pub all-stepped : (most : ℕ) (store : List ℕ) (n : ℕ) (left : List ℕ) (ending : Ending) → Strode most store n left → EndsAt most n left ending → StepsOver most store n ending
all-stepped most store n left ending s ends = record { fits = s.fits; remaining = left; frames = s.frames; up_to = s.up_to; ends = ends }

-- nothing was there
pub end-told : (a b : Option (List ℕ)) (field : List ℕ) (n : ℕ) → n ≡ 0 → Consumes a b (take n field) → IsAtEnd b → TellsBytes a → known_bytes a ≡ []
end-told a b field n none read end tells = given a b (take n field) read tells ∙ (ap (λ k. take k field ++ known_bytes b) none ∙ none-left b end)

-- less than a length was
pub short-told : (most : ℕ) (a b : Option (List ℕ)) (field : List ℕ) (n : ℕ) → n ≢ 0 → n < 4 → n ≤ length field → Consumes a b (take n field) → IsAtEnd b → TellsBytes a →
    Reads most (known_bytes a) frames.Torn
short-told most a b field n some fewer within read end tells =
    let all : known_bytes a ≡ take n field = given a b (take n field) read tells ∙ (ap (λ z. take n field ++ z) (none-left b end) ∙ append-nil (take n field)) in
    let count : length (known_bytes a) ≡ n = ap length all ∙ length-take-le n field within in
    (λ none. let zero : length (known_bytes a) ≡ 0 = ap length none in some (omega (arith, zero, count)), inl (omega (arith, count, fewer)))

-- a length was, and what follows it
pub field-read : (a b : Option (List ℕ)) (field : List ℕ) (n : ℕ) → length field ≡ 4 → 4 ≤ n → Consumes a b (take n field) → TellsBytes a → known_bytes a ≡ field ++ known_bytes b
field-read a b field n is_four all read tells = given a b (take n field) read tells ∙ ap (λ z. z ++ known_bytes b) (take_all n field (omega (arith, is_four, all)))

named : (field rest old : List ℕ) → old ≡ field ++ rest → length field ≡ 4 → named_length old ≡ from_le_bytes w32 field
named field rest old parts is_four = ap (λ z. from_le_bytes w32 (take 4 z)) parts ∙ ap (from_le_bytes w32) (take_at field rest 4 is_four)

pub too-long-told : (most : ℕ) (field rest old : List ℕ) → old ≡ field ++ rest → length field ≡ 4 → most < from_le_bytes w32 field → Reads most old (frames.TooLong (from_le_bytes w32 field))
too-long-told most field rest old parts is_four over =
    let all : length old ≡ length field + length rest = ap length parts ∙ length-append field rest in
    (omega (arith, all, is_four), sym (named field rest old parts is_four), over)

pub torn-told : (most : ℕ) (field rest old : List ℕ) → old ≡ field ++ rest → length field ≡ 4 → from_le_bytes w32 field ≤ most → length rest < 4 + from_le_bytes w32 field → Reads most old frames.Torn
torn-told most field rest old parts is_four fits short =
    let all : length old ≡ length field + length rest = ap length parts ∙ length-append field rest in
    let name = named field rest old parts is_four in
    (λ none. let zero : length old ≡ 0 = ap length none in omega (arith, zero, all, is_four), inr (omega (arith, name, fits), omega (arith, name, all, is_four, short)))

pub frame-told : (most size : ℕ) (field piece new old : List ℕ) → old ≡ field ++ (piece ++ new) → length field ≡ 4 → from_le_bytes w32 field ≤ most → length piece ≡ 4 + from_le_bytes w32 field →
    size ≡ 8 + from_le_bytes w32 field → IsThere most old × (size ≡ frame_size old) × (new ≡ drop size old)
frame-told most size field piece new old parts is_four fits count is_size =
    let joined : old ≡ (field ++ piece) ++ new = parts ∙ sym (append_assoc field piece new) in
    let front = length-append field piece in
    let all : length old ≡ length (field ++ piece) + length new = ap length joined ∙ length-append (field ++ piece) new in
    let name = named field (piece ++ new) old parts is_four in
    let whole : length (field ++ piece) ≡ size = omega (arith, front, is_four, count, is_size) in (
      (omega (arith, name, fits), omega (arith, name, all, front, is_four, count)),
      omega (arith, is_size, name),
      sym (ap (drop size) joined ∙ drop_at (field ++ piece) new size whole),
    )

-- bytes were skipped after the length
pub skipped-torn : (most : ℕ) (a b c : Option (List ℕ)) (field : List ℕ) (n skipped : ℕ) → length field ≡ 4 → 4 ≤ n → Consumes a b (take n field) → from_le_bytes w32 field ≤ most → Skips b c skipped →
    skipped < 4 + from_le_bytes w32 field → IsAtEnd c → TellsBytes a → Reads most (known_bytes a) frames.Torn
skipped-torn most a b c field n skipped is_four all read fits skips short end tells =
    let after = known-on a b (take n field) read tells in
    let rest : known_bytes b ≡ skips.0 = given b c skips.0 skips.1 after ∙ (ap (λ z. skips.0 ++ z) (none-left c end) ∙ append-nil skips.0) in
    let count : length (known_bytes b) ≡ skipped = ap length rest ∙ skips.2 in
    torn-told most field (known_bytes b) (known_bytes a) (field-read a b field n is_four all read tells) is_four fits (omega (arith, count, short))

pub skipped-frame : (most size : ℕ) (a b c : Option (List ℕ)) (field : List ℕ) (n skipped : ℕ) → length field ≡ 4 → 4 ≤ n → Consumes a b (take n field) → from_le_bytes w32 field ≤ most → Skips b c skipped →
    skipped ≡ 4 + from_le_bytes w32 field → size ≡ 8 + from_le_bytes w32 field → TellsBytes a →
    IsThere most (known_bytes a) × (size ≡ frame_size (known_bytes a)) × (known_bytes c ≡ drop size (known_bytes a))
skipped-frame most size a b c field n skipped is_four all read fits skips whole is_size tells =
    let after = known-on a b (take n field) read tells in
    let parts = field-read a b field n is_four all read tells ∙ ap (λ z. field ++ z) (given b c skips.0 skips.1 after) in
    frame-told most size field skips.0 (known_bytes c) (known_bytes a) parts is_four fits (skips.2 ∙ whole) is_size

-- one more read was dropped
pub skip-more : (a b c : Option (List ℕ)) (m n : ℕ) → Skips a b m → Skips b c n → Skips a c (m + n)
skip-more a b c m n p q =
    let all = length-append p.0 q.0 in
    let first = p.2 in
    let second = q.2 in (p.0 ++ q.0, Consumes-trans a b c p.0 q.0 p.1 q.1, omega (arith, all, first, second))
