-- Listing a store of frames, from what was appended to it.
use Rattle.std.specs.Prelude.{◌≡◌, ◌≢◌, ◌+◌, ◌-◌, ◌^◌, ◌<◌, ◌≤◌, ◌++◌, ℕ, List, [], ◌∷◌, length, take, drop, Option, Bool, refl}
use Rattle.std.specs.Borrow.{Bor}
use Rattle.std.specs.Int.{w32, to_le_bytes}
use Rattle.std.specs.List.{All}
use Rattle.std.proofs.Common.{◌∙◌, ap, sym, subst, arith, append_assoc, append-nil, length-append}
use Rattle.std.proofs.Math.Seq.{take-append_seam, drop-append_seam}
use Rattle.std.proofs.lemmas.List.{length-drop, drop-drop, take-append-le, drop-append-le, take-append-drop}
use Rattle.std.proofs.lemmas.Nat.{from_le_bytes-to_le_bytes_4}
use Rattle.std.proofs.lemmas.List.Elements.{All-drop, All-take}
use mathlib.Core.Logic.{dite}
use native.Mathlib.Decide.{dec_le}
use Rattle.bincode_base.specs.Setting.{Setting}
use Rattle.bincode_spec.specs.Format.{Format}
use Rattle.bincode_spec.specs.Layers.Laws.{IsLawful}
use Rattle.bincode_spec.specs.Meaning.{Meaning}
use Rattle.bincode_lemmas.specs.FormatLaws.{one-word}
use Rattle.bincode_types.specs.TypeLaws.{ExactWords}
use Rattle.bincode_types.specs.TypeWords.{Words}
use Rattle.bincode_io.specs.RoomLaws.{first-empty}
use Rattle.frames.specs.FrameLaws.{framed-read}
use Rattle.frames.specs.Frames.{frame, check_of, framed_word, named_length, IsThere, Reads}
use Rattle.frames.specs.declared.Frame.{Frame}
use Rattle.frames.specs.declared.Frame.TheVariants as frames
use Rattle.framed_store.specs.declared.ending.Ending.{Ending}
use Rattle.framed_store.specs.declared.ending.Ending.TheVariants as endings
use Rattle.framed_store.specs.declared.listing.Record.{Record}
use Rattle.framed_store.specs.declared.records.Content.{Content}
use Rattle.framed_store.specs.declared.records.Content.TheVariants.{Value, Damaged, Undecodable, Longer}
use Rattle.framed_store.specs.Appended.{IsFitting}
use Rattle.framed_store.specs.Pieces.{Piece, FrameOf, Damage, bytes_of, bytes_of_all, IsPiece, ArePieces, IsTorn, IsToldAs, ToldFor, TellsFirst, TellsAll, TellsBeforeTorn, LacksRoom, EndsAfter, TellsFront}
use Rattle.framed_store.specs.Steps.{IsWhole, IsDamaged, EndsAt}
use Rattle.framed_store.specs.Told.{IsRecord, ReadFrom, Lists}
use Rattle.framed_store.proofs.Fronts.{damaged-on, no-end, front-is-torn, torn-alone}
use Rattle.framed_store.specs.Surveys.{frame_size}
use Rattle.framed_store.proofs.Stepped.{sliced, slice-rest, frame-within}

abbrev pub AreBytes : List ℕ → Type 0
AreBytes xs = All (λ b. b < 256) xs

front-bytes : (xs ys : List ℕ) → AreBytes (xs ++ ys) → AreBytes xs
front-bytes xs ys all = subst AreBytes (take-append_seam xs ys) (All-take (λ b. b < 256) (length xs) (xs ++ ys) all)

pub back-bytes : (xs ys : List ℕ) → AreBytes (xs ++ ys) → AreBytes ys
back-bytes xs ys all = subst AreBytes (drop-append_seam xs ys) (All-drop (λ b. b < 256) (length xs) (xs ++ ys) all)

word-bytes : (word : List ℕ) → AreBytes (frame word) → AreBytes word
word-bytes word all = front-bytes word (to_le_bytes w32 (check_of word)) (All-drop (λ b. b < 256) 4 (frame word) all)

length-frame : (word : List ℕ) → length (frame word) ≡ 8 + length word
length-frame word = let inner = length-append word (to_le_bytes w32 (check_of word)) in omega (arith, inner)

-- the length that a frame names
named-frame : {most : ℕ} (small : most < 2 ^ 32) (word : List ℕ) → length word ≤ most → (named_length (frame word) ≤ most) × (length (frame word) ≡ 8 + named_length (frame word))
named-frame small word fits =
    let named : named_length (frame word) ≡ length word = from_le_bytes-to_le_bytes_4 (length word) (omega (arith, fits, small)) in
    let own = length-frame word in (omega (arith, named, fits), omega (arith, named, own))

-- a word that was framed, as it is read
abbrev read_as : List ℕ → Bor (List ℕ)
read_as bytes = record { ref_ptr = (0, 0); now = framed_word bytes }

module _ {A : Type 0} (F : Format Meaning) (limit : Option ℕ) (decodes_to : Meaning → A → Type 0) (most : ℕ) where
  -- what is told of a frame is told of one that is there
  pub record-there : (bytes : List ℕ) (size : ℕ) (content : Content A) → IsRecord F limit decodes_to most bytes size content → IsThere most bytes × (size ≡ frame_size bytes)
  record-there bytes size (Value v) h = (h.0.0, h.0.1)
  record-there bytes size Damaged h = (h.0, h.1)
  record-there bytes size (Undecodable why) h = (h.0.0, h.0.1)
  record-there bytes size (Longer taken) h = (h.0.0, h.0.1)

  -- one more frame after those that were read
  next-read : (at : ℕ) (input : List ℕ) (records : List (Record A)) (end : ℕ) (remaining : List ℕ) → ReadFrom F limit decodes_to most at input records end remaining →
      (size : ℕ) (content : Content A) → IsRecord F limit decodes_to most remaining size content →
      ReadFrom F limit decodes_to most at input (records ++ (record { offset = end; size = size; content = content }) ∷ []) (end + size) (drop size remaining)
  next-read at input [] end remaining r size content h = (subst (λ z. IsRecord F limit decodes_to most z size content) r.1 h, r.0, (ap (λ z. z + size) r.0, ap (drop size) r.1))
  next-read at input (l ∷ records) end remaining r size content h = (r.0, r.1, next-read (at + l.size) (drop l.size input) records end remaining r.2 size content h)

  -- one more, from the slice after them
  pub read-on : (store : List ℕ) (at : ℕ) (records : List (Record A)) (size : ℕ) (content : Content A) → at ≤ length store → ReadFrom F limit decodes_to most 0 store records at (drop at store) →
      IsRecord F limit decodes_to most (sliced store at) size content →
      (at + size ≤ length store) × (8 ≤ size) × ReadFrom F limit decodes_to most 0 store (records ++ (record { offset = at; size = size; content = content }) ∷ []) (at + size) (drop (at + size) store)
  read-on store at records size content h r read =
      let there = record-there (sliced store at) size content read in
      let within = frame-within most store at size h there.1 there.0.1 in
      let here = subst (λ z. IsRecord F limit decodes_to most z size content) (slice-rest store at) read in
      let rest : drop size (drop at store) ≡ drop (at + size) store = drop-drop size at store in (
        within.0,
        within.1,
        subst (λ z. ReadFrom F limit decodes_to most 0 store (records ++ (record { offset = at; size = size; content = content }) ∷ []) (at + size) z) rest
            (next-read 0 store records at (drop at store) r size content here),
      )

module _ {A : Type 0} (W : Words A) (s : Setting) (limit : Option ℕ) (most : ℕ) (small : most < 2 ^ 32) (eq : A → A → Bool) (exact : ExactWords W eq) where
  abbrev F : Format Meaning
  F = W.format s

  f : IsLawful F
  f = W.lawful s

  abbrev Told : List ℕ → ℕ → Content A → Type 0
  Told = IsRecord F limit W.decodes_to most

  abbrev ReadOf : ℕ → List ℕ → List (Record A) → ℕ → List ℕ → Type 0
  ReadOf = ReadFrom F limit W.decodes_to most

  -- the word that is read where its frame stands
  whole-read : (word rest : List ℕ) → AreBytes word → length word ≤ most → (size : ℕ) → IsWhole most (frame word ++ rest) size →
      (framed_word (frame word ++ rest) ≡ word) × (size ≡ 8 + length word)
  whole-read word rest bytes fits size w = framed-read most word rest bytes fits small (frames.Whole (read_as (frame word ++ rest)) size) (w.0, w.1, w.2, refl)

  -- the frame of a value is told as an equal value
  told-kept : (v : A) (word rest : List ℕ) → IsFitting W s limit most v word → AreBytes word → (size : ℕ) (content : Content A) → Told (frame word ++ rest) size content →
      IsToldAs eq (FrameOf v word) content × (size ≡ length (frame word))
  told-kept v word rest fit bytes size (Value w) h =
      let read = whole-read word rest bytes fit.is_short size h.0 in
      let d = h.1 in
      let i = fit.is_entry in
      let m = i.is_written.meaning in
      let u = f.written_is_word word m i.is_written.is_written in
      let one = one-word f word d.word [] d.remaining m d.meaning u.0 d.steps u.1 d.is_word (append-nil word ∙ sym read.0 ∙ d.input_is) in
      (exact.comes_back v w m i.is_valid i.is_written.is_meant (subst (λ z. W.decodes_to z w) (sym one.1) d.is_decoded), read.1 ∙ sym (length-frame word))
  told-kept v word rest fit bytes size Damaged h = absurd (framed-read most word rest bytes fit.is_short small (frames.Damaged size) h)
  told-kept v word rest fit bytes size (Undecodable why) h =
      let read = whole-read word rest bytes fit.is_short size h.0 in
      let i = fit.is_entry in
      let m = i.is_written.meaning in
      let u = f.written_is_word word m i.is_written.is_written in
      absurd (h.1.no_word word [] m u.0 (read.0 ∙ sym (append-nil word)) u.1 (i.is_within m u.0 u.1))
  told-kept v word rest fit bytes size (Longer taken) h =
      let read = whole-read word rest bytes fit.is_short size h.0 in
      let d = h.1.0 in
      let i = fit.is_entry in
      let m = i.is_written.meaning in
      let u = f.written_is_word word m i.is_written.is_written in
      let one = one-word f word d.word [] d.remaining m d.meaning u.0 d.steps u.1 d.is_word (append-nil word ∙ sym read.0 ∙ d.input_is) in
      let same : length word ≡ length d.word = ap length one.0 in
      let all : length (framed_word (frame word ++ rest)) ≡ length word = ap length read.0 in
      let count = d.count in
      let fewer = h.1.1 in
      absurd (omega (arith, same, all, count, fewer))

  -- what is not as its check says is told as damaged
  told-changed : (bytes rest : List ℕ) → IsDamaged most bytes (length bytes) → (size : ℕ) (content : Content A) → Told (bytes ++ rest) size content → (content ≡ Damaged) × (size ≡ length bytes)
  told-changed bytes rest d size Damaged h = let on = damaged-on most bytes rest (length bytes) d in (refl, h.1 ∙ sym on.1)
  told-changed bytes rest d size (Value v) h = let on = damaged-on most bytes rest (length bytes) d in absurd (on.2 h.0.2)
  told-changed bytes rest d size (Undecodable why) h = let on = damaged-on most bytes rest (length bytes) d in absurd (on.2 h.0.2)
  told-changed bytes rest d size (Longer taken) h = let on = damaged-on most bytes rest (length bytes) d in absurd (on.2 h.0.2)

  pub told-piece : (p : Piece A) (rest : List ℕ) → IsPiece W s limit most p → AreBytes (bytes_of p ++ rest) → (size : ℕ) (content : Content A) → Told (bytes_of p ++ rest) size content →
      IsToldAs eq p content × (size ≡ length (bytes_of p))
  told-piece (FrameOf v word) rest is all size content h = told-kept v word rest is (word-bytes word (front-bytes (frame word) rest all)) size content h
  told-piece (Damage bytes) rest is all size content h = told-changed bytes rest is size content h

  -- a store does not end where a piece stands
  ends-no-frame : (word rest : List ℕ) → AreBytes word → length word ≤ most → (at : ℕ) (ending : Ending) → EndsAt most at (frame word ++ rest) ending → ⊥
  ends-no-frame word rest bytes fits at endings.Whole h =
      let none : length (frame word ++ rest) ≡ 0 = ap length h in
      let all = length-append (frame word) rest in
      let own = length-frame word in omega (arith, none, all, own)
  ends-no-frame word rest bytes fits at (endings.Torn offset) h = framed-read most word rest bytes fits small frames.Torn h.1
  ends-no-frame word rest bytes fits at (endings.TooLong offset n) h = framed-read most word rest bytes fits small (frames.TooLong n) h.1

  pub ends-no-piece : (p : Piece A) (rest : List ℕ) → IsPiece W s limit most p → AreBytes (bytes_of p ++ rest) → (at : ℕ) (ending : Ending) → EndsAt most at (bytes_of p ++ rest) ending → ⊥
  ends-no-piece (FrameOf v word) rest is all at ending h = ends-no-frame word rest (word-bytes word (front-bytes (frame word) rest all)) is.is_short at ending h
  ends-no-piece (Damage bytes) rest is all at ending h = no-end most at (bytes ++ rest) ending (damaged-on most bytes rest (length bytes) is).0 h

  -- the records are those of the pieces, then those of what follows
  record Behind (at : ℕ) (pieces : List (Piece A)) (behind : List ℕ) (records : List (Record A)) (end : ℕ) (remaining : List ℕ) : Type 0 where
    first : List (Record A)
    others : List (Record A)
    records_are : records ≡ first ++ others
    for_pieces : ToldFor eq at pieces first
    read : ReadOf (at + length (bytes_of_all pieces)) behind others end remaining

  next-after : (at : ℕ) (p : Piece A) (pieces : List (Piece A)) (behind : List ℕ) (r : Record A) (records : List (Record A)) (end : ℕ) (remaining : List ℕ) →
      IsToldAs eq p r.content → r.offset ≡ at → r.size ≡ length (bytes_of p) → Behind (at + r.size) pieces behind records end remaining → Behind at (p ∷ pieces) behind (r ∷ records) end remaining
  next-after at p pieces behind r records end remaining told offset size b =
      let here : at + r.size ≡ at + length (bytes_of p) = ap (λ z. at + z) size in
      let both = length-append (bytes_of p) (bytes_of_all pieces) in
      let there : (at + r.size) + length (bytes_of_all pieces) ≡ at + length (bytes_of_all (p ∷ pieces)) = omega (arith, both, size) in
      record {
        first = r ∷ b.first;
        others = b.others;
        records_are = ap (λ z. r ∷ z) b.records_are;
        for_pieces = (told, offset, size, subst (λ z. ToldFor eq z pieces b.first) here b.for_pieces);
        read = subst (λ z. ReadOf z behind b.others end remaining) there b.read;
      }

  after-pieces : (at : ℕ) (pieces : List (Piece A)) (behind input : List ℕ) (records : List (Record A)) (end : ℕ) (remaining : List ℕ) (ending : Ending) → AreBytes input →
      ArePieces W s limit most pieces → input ≡ bytes_of_all pieces ++ behind → ReadOf at input records end remaining → EndsAt most end remaining ending → Behind at pieces behind records end remaining
  after-pieces at [] behind input records end remaining ending all are e r h =
      let here : at ≡ at + length (bytes_of_all {A = A} []) = omega arith in
      record {
        first = [];
        others = records;
        records_are = refl;
        for_pieces = tt;
        read = subst (λ z. ReadOf z behind records end remaining) here (subst (λ z. ReadOf at z records end remaining) e r);
      }
  after-pieces at (p ∷ pieces) behind input [] end remaining ending all are e r h =
      let rest = bytes_of_all pieces ++ behind in
      let same : input ≡ bytes_of p ++ rest = e ∙ append_assoc (bytes_of p) (bytes_of_all pieces) behind in
      absurd (ends-no-piece p rest are.0 (subst AreBytes same all) end ending (subst (λ z. EndsAt most end z ending) (r.1 ∙ same) h))
  after-pieces at (p ∷ pieces) behind input (r ∷ records) end remaining ending all are e read h =
      let rest = bytes_of_all pieces ++ behind in
      let same : input ≡ bytes_of p ++ rest = e ∙ append_assoc (bytes_of p) (bytes_of_all pieces) behind in
      let bytes = subst AreBytes same all in
      let told = told-piece p rest are.0 bytes r.size r.content (subst (λ z. Told z r.size r.content) same read.0) in
      let next : drop r.size input ≡ rest = ap (drop r.size) same ∙ (ap (λ k. drop k (bytes_of p ++ rest)) told.1 ∙ drop-append_seam (bytes_of p) rest) in
      next-after at p pieces behind r records end remaining told.0 read.1 told.1
      (after-pieces (at + r.size) pieces behind (drop r.size input) records end remaining ending (subst AreBytes (sym next) (back-bytes (bytes_of p) rest bytes)) are.1 next read.2 h)

  -- nothing is told of nothing
  none-after : (at : ℕ) (pieces : List (Piece A)) (records first others : List (Record A)) (end : ℕ) (remaining : List ℕ) (ending : Ending) → records ≡ first ++ others → ToldFor eq at pieces first →
      (here : ℕ) → ReadOf here [] others end remaining → EndsAt most end remaining ending → ToldFor eq at pieces records × (ending ≡ endings.Whole)
  none-after at pieces records first [] end remaining endings.Whole e all here r h = (subst (λ z. ToldFor eq at pieces z) (sym (e ∙ append-nil first)) all, refl)
  none-after at pieces records first [] end remaining (endings.Torn offset) e all here r h = absurd (h.1.0 r.1)
  none-after at pieces records first [] end remaining (endings.TooLong offset n) e all here r h =
      let none : length remaining ≡ 0 = ap length r.1 in
      let four = h.1.0 in absurd (omega (arith, none, four))
  none-after at pieces records first (r ∷ others) end remaining ending e all here read h =
      let there = (record-there F limit W.decodes_to most [] r.size r.content read.0).0.1 in absurd (omega (arith, there))

  stopped_there : (offset here : ℕ) → offset ≡ here → endings.Torn offset ≡ endings.Torn here
  stopped_there offset here same = ap endings.Torn same

  module _ (front : List ℕ) (torn : Reads most front frames.Torn) where
    -- of a torn frame it is told that it is torn
    torn-read : (r : Frame) → Reads most front r → r ≡ frames.Torn
    torn-read r h = torn-alone most front torn r h

    no-record : (size : ℕ) (content : Content A) → Told front size content → ⊥
    no-record size Damaged h = let same = torn-read (frames.Damaged size) h in cc
    no-record size (Value v) h = let same = torn-read (frames.Whole (read_as front) size) (h.0.0, h.0.1, h.0.2, refl) in cc
    no-record size (Undecodable why) h = let same = torn-read (frames.Whole (read_as front) size) (h.0.0, h.0.1, h.0.2, refl) in cc
    no-record size (Longer taken) h = let same = torn-read (frames.Whole (read_as front) size) (h.0.0, h.0.1, h.0.2, refl) in cc

    torn-after : (at : ℕ) (pieces : List (Piece A)) (records first others : List (Record A)) (end : ℕ) (remaining : List ℕ) (ending : Ending) → records ≡ first ++ others →
        ToldFor eq at pieces first → (here : ℕ) → ReadOf here front others end remaining → EndsAt most end remaining ending → ToldFor eq at pieces records × (ending ≡ endings.Torn here)
    torn-after at pieces records first [] end remaining endings.Whole e all here r h = absurd (torn.0 (sym r.1 ∙ h))
    torn-after at pieces records first [] end remaining (endings.Torn offset) e all here r h =
        (subst (λ z. ToldFor eq at pieces z) (sym (e ∙ append-nil first)) all, stopped_there offset here (h.0 ∙ r.0))
    torn-after at pieces records first [] end remaining (endings.TooLong offset n) e all here r h =
        let same = torn-read (frames.TooLong n) (subst (λ z. Reads most z (frames.TooLong n)) r.1 h.1) in absurd (cc)
    torn-after at pieces records first (r ∷ others) end remaining ending e all here read h = absurd (no-record r.size r.content read.0)

  -- the length that a piece names
  named-piece : (p : Piece A) → IsPiece W s limit most p → (named_length (bytes_of p) ≤ most) × (length (bytes_of p) ≡ 8 + named_length (bytes_of p))
  named-piece (FrameOf v word) is = named-frame small word is.is_short
  named-piece (Damage bytes) is = (is.0.0, is.1)

  pub torn-front : (front : List ℕ) → IsTorn most front → Reads most front frames.Torn
  torn-front front t = let named = named-frame small t.word t.is_short in front-is-torn most (frame t.word) front t.back named.0 named.1 t.frame_is t.some_written t.some_missing

  -- pieces that were cut: those that stand whole, and the front of one that does not
  record Split (pieces : List (Piece A)) (store : List ℕ) : Type 0 where
    kept : List (Piece A)
    lost : List (Piece A)
    front : List ℕ
    pieces_are : pieces ≡ kept ++ lost
    store_is : store ≡ bytes_of_all kept ++ front
    are : ArePieces W s limit most kept
    lacks_room : LacksRoom (length front) lost
    is_torn : front ≢ [] → Reads most front frames.Torn

  split : (pieces : List (Piece A)) (store rest : List ℕ) → ArePieces W s limit most pieces → bytes_of_all pieces ≡ store ++ rest → Split pieces store
  split [] store rest are e = record { kept = []; lost = []; front = []; pieces_are = refl; store_is = first-empty store rest (sym e); are = tt; lacks_room = tt; is_torn = λ some. absurd (some refl) }
  split (p ∷ pieces) store rest are e = dite (dec_le (length (bytes_of p)) (length store))
      (λ whole.
      let n = length (bytes_of p) in
      let front : bytes_of p ≡ take n store = sym (take-append_seam (bytes_of p) (bytes_of_all pieces)) ∙ (ap (take n) e ∙ take-append-le n store rest whole) in
      let back : bytes_of_all pieces ≡ drop n store ++ rest = sym (drop-append_seam (bytes_of p) (bytes_of_all pieces)) ∙ (ap (drop n) e ∙ drop-append-le n store rest whole) in
      let next = split pieces (drop n store) rest are.1 back in
      record {
        kept = p ∷ next.kept;
        lost = next.lost;
        front = next.front;
        pieces_are = ap (λ z. p ∷ z) next.pieces_are;
        store_is = sym (take-append-drop n store) ∙ (ap (λ z. z ++ drop n store) (sym front) ∙ (ap (λ z. bytes_of p ++ z) next.store_is ∙ sym (append_assoc (bytes_of p) (bytes_of_all next.kept) next.front)));
        are = (are.0, next.are);
        lacks_room = next.lacks_room;
        is_torn = next.is_torn;
      })
      (λ fewer.
      let n = length store in
      let short : n < length (bytes_of p) = omega (arith, fewer) in
      let within : n ≤ length (bytes_of p) = omega (arith, fewer) in
      let parts : bytes_of p ≡ store ++ drop n (bytes_of p) =
      sym (take-append-drop n (bytes_of p)) ∙ ap (λ z. z ++ drop n (bytes_of p)) (sym (take-append-le n (bytes_of p) (bytes_of_all pieces) within) ∙ (ap (take n) e ∙ take-append_seam store rest)) in
      let left = length-drop n (bytes_of p) in
      let missing : 0 < length (drop n (bytes_of p)) = omega (arith, left, short) in
      let named = named-piece p are.0 in
      record {
        kept = [];
        lost = p ∷ pieces;
        front = store;
        pieces_are = refl;
        store_is = refl;
        are = tt;
        lacks_room = short;
        is_torn = λ some. front-is-torn most (bytes_of p) store (drop n (bytes_of p)) named.0 named.1 parts some missing;
      })

  module _ (store : List ℕ) (bytes : AreBytes store) (records : List (Record A)) (ending : Ending) (l : Lists F limit W.decodes_to most store records ending)
      (pieces : List (Piece A)) (are : ArePieces W s limit most pieces) where
    begin : (behind : List ℕ) → store ≡ bytes_of_all pieces ++ behind → Behind 0 pieces behind records l.end l.remaining
    begin behind e = after-pieces 0 pieces behind store records l.end l.remaining ending bytes are e l.frames l.ends

    -- what was appended is told first
    pub lists-first : (behind : List ℕ) → store ≡ bytes_of_all pieces ++ behind → TellsFirst eq pieces records
    lists-first behind e = let b = begin behind e in record { first = b.first; others = b.others; records_are = b.records_are; for_pieces = b.for_pieces }

    pub lists-all : store ≡ bytes_of_all pieces → TellsAll eq pieces records ending
    lists-all e =
        let b = begin [] (e ∙ sym (append-nil (bytes_of_all pieces))) in
        none-after 0 pieces records b.first b.others l.end l.remaining ending b.records_are b.for_pieces _ b.read l.ends

    pub lists-before-torn : (front : List ℕ) → Reads most front frames.Torn → store ≡ bytes_of_all pieces ++ front → TellsBeforeTorn eq pieces records ending
    lists-before-torn front t e =
        let b = begin front e in
        let here : 0 + length (bytes_of_all pieces) ≡ length (bytes_of_all pieces) = omega arith in
        torn-after front t 0 pieces records b.first b.others l.end l.remaining ending b.records_are b.for_pieces _
        (subst (λ z. ReadOf z front b.others l.end l.remaining) here b.read) l.ends

  -- of pieces that were cut those are told that stand whole
  ends-all : (store front : List ℕ) (kept : List (Piece A)) (records : List (Record A)) (ending : Ending) → store ≡ bytes_of_all kept ++ front → front ≡ [] → TellsAll eq kept records ending →
      ToldFor eq 0 kept records × EndsAfter (length (bytes_of_all kept)) (length store) ending
  ends-all store front kept records ending e none t =
      let all : length store ≡ length (bytes_of_all kept) = ap length (e ∙ (ap (λ z. bytes_of_all kept ++ z) none ∙ append-nil (bytes_of_all kept))) in
      (t.0, subst (EndsAfter (length (bytes_of_all kept)) (length store)) (sym t.1) all)

  ends-torn : (store front : List ℕ) (kept : List (Piece A)) (records : List (Record A)) (ending : Ending) → store ≡ bytes_of_all kept ++ front → 0 < length front →
      TellsBeforeTorn eq kept records ending → ToldFor eq 0 kept records × EndsAfter (length (bytes_of_all kept)) (length store) ending
  ends-torn store front kept records ending e some t =
      let all : length store ≡ length (bytes_of_all kept) + length front = ap length e ∙ length-append (bytes_of_all kept) front in
      let place : length (bytes_of_all kept) < length store = omega (arith, all, some) in
      (t.0, subst (EndsAfter (length (bytes_of_all kept)) (length store)) (sym t.1) (refl, place))

  module _ (store : List ℕ) (bytes : AreBytes store) (records : List (Record A)) (ending : Ending) (l : Lists F limit W.decodes_to most store records ending) where
    ends-front : (kept : List (Piece A)) (front : List ℕ) → ArePieces W s limit most kept → store ≡ bytes_of_all kept ++ front → (front ≢ [] → Reads most front frames.Torn) →
        ToldFor eq 0 kept records × EndsAfter (length (bytes_of_all kept)) (length store) ending
    ends-front kept [] are e torn = ends-all store [] kept records ending e refl (lists-all store bytes records ending l kept are (e ∙ append-nil (bytes_of_all kept)))
    ends-front kept (b ∷ front) are e torn =
        ends-torn store (b ∷ front) kept records ending e (omega arith) (lists-before-torn store bytes records ending l kept are (b ∷ front) (torn (λ none. cc)) e)

    pub lists-front : (pieces : List (Piece A)) (rest : List ℕ) → ArePieces W s limit most pieces → bytes_of_all pieces ≡ store ++ rest → TellsFront eq pieces (length store) records ending
    lists-front pieces rest are e =
        let parts = split pieces store rest are e in
        let told = ends-front parts.kept parts.front parts.are parts.store_is parts.is_torn in
        let all : length store ≡ length (bytes_of_all parts.kept) + length parts.front = ap length parts.store_is ∙ length-append (bytes_of_all parts.kept) parts.front in
        let room : length parts.front ≡ length store - length (bytes_of_all parts.kept) = omega (arith, all) in
        record {
          kept = parts.kept;
          lost = parts.lost;
          pieces_are = parts.pieces_are;
          for_kept = told.0;
          lacks_room = subst (λ n. LacksRoom n parts.lost) room parts.lacks_room;
          ends = told.1;
        }
