-- What a slice holds where a value could not be written.
use Rattle.std.specs.Prelude.{◌≡◌, ◌⊎◌, ◌+◌, ◌-◌, ◌≤◌, ◌<◌, ◌++◌, ℕ, List, [], length, drop, refl, Result, Ok, Err}
use Rattle.std.proofs.Common.{◌∙◌, ap, subst, inl, inr, arith, append_assoc, length-append, length-drop}
use Rattle.bincode_spec.specs.Put.{put}
use Rattle.bincode_io.specs.Slices.{bytes_of, written_by}
use Rattle.bincode_io.specs.declared.write.SliceWriter.{SliceWriter}
use Rattle.bincode_base.specs.declared.error.EncodeError.{EncodeError}
use Rattle.bincode_base.specs.declared.error.EncodeError.TheVariants.{UnexpectedEnd}
use Rattle.bincode_spec.specs.Allowed.{OneLength}
use Rattle.bincode_spec.specs.Encoding.{IsReady, Writes, Begins, EncodeFailure, by_writer, by_name}
use Rattle.bincode_spec.specs.Slice.{ReplacesFront, WordWritten, FrontWritten, FitsExactly}

-- what a slice writer adds, and why it refuses a piece
abbrev pub Added : SliceWriter → List ℕ → SliceWriter → Type 0
Added a piece b =
    (written_by b ≡ written_by a + length piece) × (bytes_of b ≡ put (written_by a) piece (bytes_of a)) × (length (bytes_of b) ≡ length (bytes_of a)) × (piece ≡ [] → b ≡ a)

abbrev pub Refused : SliceWriter → List ℕ → EncodeError → SliceWriter → Type 0
Refused a piece e b = (e ≡ UnexpectedEnd) × (length (bytes_of a) - written_by a < length piece) × (b ≡ a)

put_front : (n : ℕ) (front s : List ℕ) → n ≡ 0 → put n front s ≡ front ++ drop (length front) s
put_front n front s e = let z : 0 + length front ≡ length front = omega arith in rw (e, z) refl

filled : (old front : List ℕ) (before middle : SliceWriter) → bytes_of before ≡ old → written_by before ≡ 0 → Added before front middle → ReplacesFront front old (bytes_of middle)
filled old front before middle s w h = h.1 ∙ put_front (written_by before) front (bytes_of before) w ∙ ap (λ z. front ++ drop (length front) z) s

own_or_front : (A : List ℕ → Type 0) (front piece : List ℕ) → Begins A (front ++ piece) → Begins A front
own_or_front A front piece b some a = let m = b some a in (piece ++ m.0, subst A (append_assoc front piece m.0) m.1)

module _ (A : List ℕ → Type 0) (N : EncodeError → Type 0) (old new : List ℕ) (before after : SliceWriter) (e : EncodeError) (start : bytes_of before ≡ old) (count : written_by before ≡ 0) where
  -- a prefix of a word stands in the slice
  pub halted-left : new ≡ bytes_of after → EncodeFailure Added Refused A N before after e → FrontWritten A old new e
  halted-left end (by_writer front piece middle h r b) = record {
    front = front;
    fills = end ∙ ap bytes_of r.2 ∙ filled old front before middle start count h;
    begins = inr (own_or_front A front piece b);
  }
  halted-left end (by_name front h n b) = record { front = front; fills = end ∙ filled old front before after start count h; begins = b }

  -- the type names the error, or the room was too small
  pub halted-short : EncodeFailure Added Refused A N before after e → N e ⊎ ((front : List ℕ) × Begins A front × (length old < length front))
  halted-short (by_writer front piece middle h r b) =
      let size : length (bytes_of middle) ≡ length front + length (drop (length front) old) =
      ap length (filled old front before middle start count h) ∙ length-append front (drop (length front) old) in
      let left : length (drop (length front) old) ≡ length old - length front = length-drop (length front) old in
      let at : written_by middle ≡ length front = let g = h.0 in omega arith in
      let room = r.1 in
      let both : length (front ++ piece) ≡ length front + length piece = length-append front piece in
      inr (front ++ piece, b, omega arith)
  halted-short (by_name front h n b) = inl n

-- the type names the error, or the writer refused a piece
pub halted-why : (A : List ℕ → Type 0) (N : EncodeError → Type 0) (before after : SliceWriter) (e : EncodeError) → EncodeFailure Added Refused A N before after e → (e ≡ UnexpectedEnd) ⊎ N e
halted-why A N before after e (by_writer front piece middle h r b) = inl r.0
halted-why A N before after e (by_name front h n b) = inr n

module _ (A : List ℕ → Type 0) (before after : SliceWriter) (count : written_by before ≡ 0) (w : Writes Added A before after) where
  -- what was counted is the length of the word
  word_counted : written_by after ≡ length w.word
  word_counted = let h = w.added.0 in omega arith

  -- a word that was added stands in the slice
  pub word-written : (old new : List ℕ) (n : ℕ) → n ≡ written_by after → bytes_of before ≡ old → new ≡ bytes_of after → WordWritten A n old new
  word-written old new n size start end = record { word = w.word; is_allowed = w.is_allowed; count = size ∙ word_counted; fills = end ∙ filled old w.word before after start count w.added }

  -- and each word of its length is within the room
  pub word-fits : (Writable : Type 0) (N : EncodeError → Type 0) (room n : ℕ) → written_by after ≤ room → FitsExactly (IsReady Writable A) N room (Ok n)
  word-fits Writable N room n le = record {
    short = tt;
    exact = λ one none word a.
        let same : length word ≡ length w.word = one word w.word a (record { is_writable = a.is_writable; is_allowed = w.is_allowed }) in
        let long = word_counted in
        (λ h. omega arith, λ fits. refl);
  }

-- a slice writer refuses only for lack of room
pub short-fits : (A : List ℕ → Type 0) (N : EncodeError → Type 0) (room : ℕ) (result : Result ℕ EncodeError) (e : EncodeError) → result ≡ Err e →
    N e ⊎ ((front : List ℕ) × Begins A front × (room < length front)) → FitsExactly A N room result
short-fits A N room result e is short = rw is (record {
  short = short;
  exact = λ one none word a. (λ h. absurd (cc), λ fits. absurd (too_short A N room e one none word a fits short));
})
  where
    too_short : (A : List ℕ → Type 0) (N : EncodeError → Type 0) (room : ℕ) (e : EncodeError) → OneLength A → ((d : EncodeError) → ¬ (N d)) →
        (word : List ℕ) → A word → length word ≤ room → N e ⊎ ((front : List ℕ) × Begins A front × (room < length front)) → ⊥
    too_short A N room e one none word a fits (inl n) = none e n
    too_short A N room e one none word a fits (inr s) =
        let m = s.1 word a in
        let same : length word ≡ length (s.0 ++ m.0) = one word (s.0 ++ m.0) a m.1 in
        let sum : length (s.0 ++ m.0) ≡ length s.0 + length m.0 = length-append s.0 m.0 in
        let long = s.2 in
        omega arith
