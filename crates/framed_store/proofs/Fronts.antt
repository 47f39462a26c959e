-- A frame is told alike, whatever follows it.
use Rattle.std.specs.Prelude.{◌≡◌, ◌≢◌, ◌+◌, ◌<◌, ◌≤◌, ◌++◌, ℕ, List, [], ◌∷◌, length, take, drop, Bool, true, false, refl}
use Rattle.std.specs.Int.{w32, from_le_bytes}
use Rattle.std.proofs.Common.{◌∙◌, ap, sym, subst, arith, inl, inr, length-append}
use Rattle.std.proofs.lemmas.List.{length-drop, take-append-le, drop-append-le}
use mathlib.Core.Logic.{dite}
use native.Mathlib.Decide.{dec_le}
use Rattle.crc32c.specs.Crc.{crc32c}
use Rattle.frames.specs.Frames.{Reads, IsThere, named_length, framed_word, after_word, named_check, framed_check}
use Rattle.frames.specs.declared.Frame.{Frame}
use Rattle.frames.specs.declared.Frame.TheVariants as frames
use Rattle.framed_store.specs.declared.ending.Ending.{Ending}
use Rattle.framed_store.specs.declared.ending.Ending.TheVariants as endings
use Rattle.framed_store.specs.Steps.{IsWhole, IsDamaged, EndsAt}
use Rattle.framed_store.specs.Surveys.{frame_size, FramesTo}

module _ (bytes rest : List ℕ) (four : 4 ≤ length bytes) where
  -- four bytes name the length
  pub same-length : named_length (bytes ++ rest) ≡ named_length bytes
  same-length = ap (from_le_bytes w32) (take-append-le 4 bytes rest four)

  module _ (there : 8 + named_length bytes ≤ length bytes) where
    abbrev n : ℕ
    n = named_length bytes

    more : drop 4 (bytes ++ rest) ≡ drop 4 bytes ++ rest
    more = drop-append-le 4 bytes rest four

    within : n + 4 ≤ length (drop 4 bytes)
    within = let left = length-drop 4 bytes in omega (arith, left, there)

    pub same-word : framed_word (bytes ++ rest) ≡ framed_word bytes
    same-word =
        let enough : n ≤ length (drop 4 bytes) = let w = within in omega (arith, w) in
        ap (λ k. take k (drop 4 (bytes ++ rest))) same-length ∙ (ap (take n) more ∙ take-append-le n (drop 4 bytes) rest enough)

    pub same-after : after_word (bytes ++ rest) ≡ after_word bytes ++ rest
    same-after =
        let enough : n ≤ length (drop 4 bytes) = let w = within in omega (arith, w) in
        ap (λ k. drop k (drop 4 (bytes ++ rest))) same-length ∙ (ap (drop n) more ∙ drop-append-le n (drop 4 bytes) rest enough)

    pub same-check : named_check (bytes ++ rest) ≡ named_check bytes
    same-check =
        let w = within in
        let left = length-drop n (drop 4 bytes) in
        let enough : 4 ≤ length (after_word bytes) = omega (arith, w, left) in
        ap (λ z. from_le_bytes w32 (take 4 z)) same-after ∙ ap (from_le_bytes w32) (take-append-le 4 (after_word bytes) rest enough)

    pub same-framed : framed_check (bytes ++ rest) ≡ framed_check bytes
    same-framed = ap (λ z. crc32c (z ++ framed_word (bytes ++ rest))) (take-append-le 4 bytes rest four) ∙ ap (λ z. crc32c (take 4 bytes ++ z)) same-word

-- more bytes after a frame that does not fit its check
pub damaged-on : (most : ℕ) (bytes rest : List ℕ) (size : ℕ) → IsDamaged most bytes size → IsDamaged most (bytes ++ rest) size
damaged-on most bytes rest size d =
    let there = d.0.1 in
    let four : 4 ≤ length bytes = omega (arith, there) in
    let name = same-length bytes rest four in
    let fits = d.0.0 in
    let all = length-append bytes rest in
    let told = d.1 in (
      (omega (arith, name, fits), omega (arith, name, there, all)),
      omega (arith, name, told),
      λ same. d.2 (sym (same-check bytes rest four there) ∙ same ∙ same-framed bytes rest four there),
    )

-- and fewer
pub damaged-front : (most : ℕ) (bytes rest : List ℕ) (size : ℕ) → size ≤ length bytes → IsDamaged most (bytes ++ rest) size → IsDamaged most bytes size
damaged-front most bytes rest size h d =
    let told = d.1 in
    let four : 4 ≤ length bytes = omega (arith, told, h) in
    let name = same-length bytes rest four in
    let there : 8 + named_length bytes ≤ length bytes = omega (arith, name, told, h) in
    let fits = d.0.0 in (
      (omega (arith, name, fits), there),
      omega (arith, name, told),
      λ same. d.2 (same-check bytes rest four there ∙ same ∙ sym (same-framed bytes rest four there)),
    )

pub whole-front : (most : ℕ) (bytes rest : List ℕ) (size : ℕ) → size ≤ length bytes → IsWhole most (bytes ++ rest) size → IsWhole most bytes size
whole-front most bytes rest size h d =
    let told = d.1 in
    let four : 4 ≤ length bytes = omega (arith, told, h) in
    let name = same-length bytes rest four in
    let there : 8 + named_length bytes ≤ length bytes = omega (arith, name, told, h) in
    let fits = d.0.0 in (
      (omega (arith, name, fits), there),
      omega (arith, name, told),
      sym (same-check bytes rest four there) ∙ d.2 ∙ same-framed bytes rest four there,
    )

-- a store does not end where a frame stands
pub no-end : (most at : ℕ) (bytes : List ℕ) (ending : Ending) → IsThere most bytes → EndsAt most at bytes ending → ⊥
no-end most at bytes endings.Whole there h = let there = there.1 in let none : length bytes ≡ 0 = ap length h in omega (arith, there, none)
no-end most at bytes (endings.Torn offset) there h =
    let there = there.1 in elim h.1.1 [ inl p ↦ omega (arith, p, there) | inr p ↦ let q = p.1 in omega (arith, q, there) ]
no-end most at bytes (endings.TooLong offset n) there h =
    let fits = there.0 in
    let name = h.1.1 in
    let over = h.1.2 in omega (arith, fits, name, over)

-- what follows frames is no longer than they are with it
rest-within : (most : ℕ) (bytes : List ℕ) (fits : List Bool) (remaining : List ℕ) → FramesTo most bytes fits remaining → length remaining ≤ length bytes
rest-within most bytes [] remaining same = let same : length remaining ≡ length bytes = ap length same in omega (arith, same)
rest-within most bytes (true ∷ fits) remaining f =
    let more = rest-within most (drop (frame_size bytes) bytes) fits remaining f.1 in
    let left = length-drop (frame_size bytes) bytes in omega (arith, more, left)
rest-within most bytes (false ∷ fits) remaining f =
    let more = rest-within most (drop (frame_size bytes) bytes) fits remaining f.1 in
    let left = length-drop (frame_size bytes) bytes in omega (arith, more, left)

-- so a frame before them stands before the rest
frame-before : (most : ℕ) (front rest : List ℕ) (fits : List Bool) → IsThere most (front ++ rest) → FramesTo most (drop (frame_size (front ++ rest)) (front ++ rest)) fits rest →
    (frame_size (front ++ rest) ≤ length front) × (frame_size (front ++ rest) ≡ frame_size front)
frame-before most front rest fits there f =
    let size = frame_size (front ++ rest) in
    let more = rest-within most (drop size (front ++ rest)) fits rest f in
    let left = length-drop size (front ++ rest) in
    let all = length-append front rest in
    let there = there.1 in
    let within : size ≤ length front = omega (arith, more, left, all, there) in
    let four : 4 ≤ length front = omega (arith, within) in (within, ap (λ k. 8 + k) (same-length front rest four))

-- the frames stand alone without what follows them
pub frames-alone : (most : ℕ) (front rest : List ℕ) (fits : List Bool) → FramesTo most (front ++ rest) fits rest → FramesTo most front fits []
frames-alone most [] rest [] same = refl
frames-alone most (x ∷ front) rest [] same =
    let same : length rest ≡ length ((x ∷ front) ++ rest) = ap length same in
    let all = length-append (x ∷ front) rest in absurd (omega (arith, same, all))
frames-alone most front rest (true ∷ fits) f =
    let before = frame-before most front rest fits f.0.0 f.1 in
    let here = subst (IsWhole most front) before.1 (whole-front most front rest (frame_size (front ++ rest)) before.0 f.0) in
    let within : frame_size front ≤ length front = subst (λ k. k ≤ length front) before.1 before.0 in
    let next = ap (λ k. drop k (front ++ rest)) before.1 ∙ drop-append-le (frame_size front) front rest within in
    (here, frames-alone most (drop (frame_size front) front) rest fits (subst (λ z. FramesTo most z fits rest) next f.1))
frames-alone most front rest (false ∷ fits) f =
    let before = frame-before most front rest fits f.0.0 f.1 in
    let here = subst (IsDamaged most front) before.1 (damaged-front most front rest (frame_size (front ++ rest)) before.0 f.0) in
    let within : frame_size front ≤ length front = subst (λ k. k ≤ length front) before.1 before.0 in
    let next = ap (λ k. drop k (front ++ rest)) before.1 ∙ drop-append-le (frame_size front) front rest within in
    (here, frames-alone most (drop (frame_size front) front) rest fits (subst (λ z. FramesTo most z fits rest) next f.1))

-- each front of a frame that is cut is torn
pub front-is-torn : (most : ℕ) (bytes front back : List ℕ) → named_length bytes ≤ most → length bytes ≡ 8 + named_length bytes → bytes ≡ front ++ back → front ≢ [] → 0 < length back →
    Reads most front frames.Torn
front-is-torn most bytes front back fits size parts some cut = dite (dec_le 4 (length front))
    (λ four.
    let name : named_length bytes ≡ named_length front = ap named_length parts ∙ same-length front back four in
    let all : length bytes ≡ length front + length back = ap length parts ∙ length-append front back in
    let short : length front < 8 + named_length front = omega (arith, name, all, size, cut) in
    let allowed : named_length front ≤ most = omega (arith, name, fits) in
    (some, inr (allowed, short)))
    (λ fewer. (some, inl (omega (arith, fewer))))

-- what is torn is told as nothing else
pub torn-alone : (most : ℕ) (bytes : List ℕ) → Reads most bytes frames.Torn → (r : Frame) → Reads most bytes r → r ≡ frames.Torn
torn-alone most bytes t frames.End h = absurd (t.0 h)
torn-alone most bytes t frames.Torn h = refl
torn-alone most bytes t (frames.TooLong n) h =
    let four = h.0 in
    let name = h.1 in
    let over = h.2 in elim t.1 [ inl p ↦ absurd (omega (arith, four, p)) | inr p ↦ let q = p.0 in absurd (omega (arith, name, over, q)) ]
torn-alone most bytes t (frames.Damaged size) h = let there = h.0.1 in elim t.1 [ inl p ↦ absurd (omega (arith, there, p)) | inr p ↦ let q = p.1 in absurd (omega (arith, there, q)) ]
torn-alone most bytes t (frames.Whole word size) h = let there = h.0.1 in elim t.1 [ inl p ↦ absurd (omega (arith, there, p)) | inr p ↦ let q = p.1 in absurd (omega (arith, there, q)) ]
