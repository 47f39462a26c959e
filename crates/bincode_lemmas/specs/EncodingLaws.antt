-- Encoding a whole, from encoding its parts.
use Rattle.std.specs.Prelude.{◌≡◌, ◌⊎◌, ℕ, List, [], ◌∷◌, ◌++◌, refl}
use Rattle.std.proofs.Common.{sym, ◌∙◌, ap, subst, inl, inr, append_assoc, append-nil}
use Rattle.bincode_base.specs.declared.error.EncodeError.{EncodeError}
use Rattle.bincode_spec.specs.Layers.Pieces.{StopsAmong, concat_pieces}
use Rattle.bincode_lemmas.specs.Sequences.{Both}
use Rattle.bincode_spec.specs.Encoding.{Adds, Refuses, Writes, IsReady, Begins, IsOwn, EncodeFailure, by_writer, by_name}

begins_first : (A B : List ℕ → Type 0) (bytes : List ℕ) → Begins A bytes → Begins (Both A B) bytes
begins_first A B bytes h some (x, y, e, a, b) = let m = h x a in (m.0 ++ y, (bytes ++ m.0, y, sym (append_assoc bytes m.0 y), m.1, b))

begins_next : (R : Type 0) (A B : List ℕ → Type 0) (word bytes : List ℕ) → A word → Begins B bytes → Begins (Both (IsReady R A) B) (word ++ bytes)
begins_next R A B word bytes a h some (x, y, e, a', b) = let m = h y b in (m.0, (word, bytes ++ m.0, append_assoc word bytes m.0, record { is_writable = a'.is_writable; is_allowed = a }, m.1))

begins_within : (A B : List ℕ → Type 0) → ((bytes : List ℕ) → A bytes → B bytes) → ((bytes : List ℕ) → B bytes → (word : List ℕ) × A word) → (bytes : List ℕ) → Begins A bytes → Begins B bytes
begins_within A B to from bytes h some b =
    let a = from some b in
    let m = h a.0 a.1 in
    (m.0, to (bytes ++ m.0) m.1)

-- a word of a value without cells
pub ready_word : (A : List ℕ → Type 0) (bytes : List ℕ) → A bytes → IsReady (Unit {0}) A bytes
ready_word A bytes a = record { is_writable = tt; is_allowed = a }

-- equal words
pub ready-as : (R : Type 0) (A B : List ℕ → Type 0) → ((bytes : List ℕ) → A bytes → B bytes) → (bytes : List ℕ) → IsReady R A bytes → IsReady R B bytes
ready-as R A B to bytes w = record { is_writable = w.is_writable; is_allowed = to bytes w.is_allowed }

-- what begins a word of one value begins one of another, which can be written where that one can
begins_where : (R S : Type 0) (A : List ℕ → Type 0) → (S → R) → (bytes : List ℕ) → Begins (IsReady R A) bytes → Begins (IsReady S A) bytes
begins_where R S A f bytes b some w =
    let m = b some (record { is_writable = f w.is_writable; is_allowed = w.is_allowed }) in
    (m.0, record { is_writable = w.is_writable; is_allowed = m.1.is_allowed })

own_or : (A B : List ℕ → Type 0) (e : EncodeError) (x y : List ℕ) → (Begins A x → Begins B y) → IsOwn e ⊎ Begins A x → IsOwn e ⊎ Begins B y
own_or A B e x y f (inl o) = inl o
own_or A B e x y f (inr b) = inr (f b)

module _ {W : Type 0} (adds : Adds W) where
  -- a piece that is a word
  pub writes-alone : (A : List ℕ → Type 0) (piece : List ℕ) (before after : W) → A piece → adds before piece after → Writes adds A before after
  writes-alone A piece before after a h = record { word = piece; is_allowed = a; added = h }

  -- two parts in turn
  pub writes-both : ((a b c : W) (x y : List ℕ) → adds a x b → adds b y c → adds a (x ++ y) c) → (A B : List ℕ → Type 0) (before between after : W) →
      Writes adds A before between → Writes adds B between after → Writes adds (Both A B) before after
  writes-both join A B before between after v w = record {
    word = v.word ++ w.word;
    is_allowed = (v.word, w.word, refl, v.is_allowed, w.is_allowed);
    added = join before between after v.word w.word v.added w.added;
  }

  -- equal words
  pub writes-same : (A B : List ℕ → Type 0) (before after : W) → ((bytes : List ℕ) → A bytes → B bytes) → Writes adds A before after → Writes adds B before after
  writes-same A B before after to v = record { word = v.word; is_allowed = to v.word v.is_allowed; added = v.added }

module _ {W : Type 0} (adds : Adds W) (refuses : Refuses W) where
  -- two parts in turn
  pub halts-first : (A B : List ℕ → Type 0) (N M : EncodeError → Type 0) (before after : W) (e : EncodeError) →
      EncodeFailure adds refuses A N before after e → EncodeFailure adds refuses (Both A B) (λ d. N d ⊎ M d) before after e
  halts-first A B N M before after e (by_writer front piece middle h r b) = by_writer front piece middle h r (begins_first A B (front ++ piece) b)
  halts-first A B N M before after e (by_name front h n b) = by_name front h (inl n) (own_or A (Both A B) e front front (begins_first A B front) b)

  pub halts-next : ((a b c : W) (x y : List ℕ) → adds a x b → adds b y c → adds a (x ++ y) c) →
      (R : Type 0) (A B : List ℕ → Type 0) (N M : EncodeError → Type 0) (before between after : W) (e : EncodeError) →
      Writes adds A before between → EncodeFailure adds refuses B M between after e → EncodeFailure adds refuses (Both (IsReady R A) B) (λ d. N d ⊎ M d) before after e
  halts-next join R A B N M before between after e v (by_writer front piece middle g r b) =
      by_writer (v.word ++ front) piece middle (join before between middle v.word front v.added g) r
      (subst (Begins (Both (IsReady R A) B)) (sym (append_assoc v.word front piece)) (begins_next R A B v.word (front ++ piece) v.is_allowed b))
  halts-next join R A B N M before between after e v (by_name front g n b) =
      by_name (v.word ++ front) (join before between after v.word front v.added g) (inr n) (own_or B (Both (IsReady R A) B) e front (v.word ++ front) (begins_next R A B v.word front v.is_allowed) b)

  -- words among others: one of these is allowed if one of those is
  pub halts-within : (A B : List ℕ → Type 0) (N : EncodeError → Type 0) (before after : W) (e : EncodeError) → ((bytes : List ℕ) → A bytes → B bytes) →
      ((bytes : List ℕ) → B bytes → (word : List ℕ) × A word) → EncodeFailure adds refuses A N before after e → EncodeFailure adds refuses B N before after e
  halts-within A B N before after e to from (by_writer front piece middle h r b) = by_writer front piece middle h r (begins_within A B to from (front ++ piece) b)
  halts-within A B N before after e to from (by_name front h n b) = by_name front h n (own_or A B e front front (begins_within A B to from front) b)

  -- equal words
  pub halts-same : (A B : List ℕ → Type 0) (N : EncodeError → Type 0) (before after : W) (e : EncodeError) → ((bytes : List ℕ) → A bytes → B bytes) →
      ((bytes : List ℕ) → B bytes → A bytes) → EncodeFailure adds refuses A N before after e → EncodeFailure adds refuses B N before after e
  halts-same A B N before after e to from = halts-within A B N before after e to (λ bytes b. (bytes, from bytes b))

  -- an error that more may name
  pub halts-named : (A : List ℕ → Type 0) (N M : EncodeError → Type 0) (before after : W) (e : EncodeError) → (N e → M e) →
      EncodeFailure adds refuses A N before after e → EncodeFailure adds refuses A M before after e
  halts-named A N M before after e more (by_writer front piece middle h r b) = by_writer front piece middle h r b
  halts-named A N M before after e more (by_name front h n b) = by_name front h (more n) b

  -- a value that can be written if another can
  pub halts-where : (R S : Type 0) (A : List ℕ → Type 0) → (S → R) → (N : EncodeError → Type 0) (before after : W) (e : EncodeError) →
      EncodeFailure adds refuses (IsReady R A) N before after e → EncodeFailure adds refuses (IsReady S A) N before after e
  halts-where R S A f N before after e (by_writer front piece middle h r b) = by_writer front piece middle h r (begins_where R S A f (front ++ piece) b)
  halts-where R S A f N before after e (by_name front h n b) = by_name front h n (own_or (IsReady R A) (IsReady S A) e front front (begins_where R S A f front) b)

  -- one piece that is the whole word
  pub halts-alone : ((w : W) → adds w [] w) → (A : List ℕ → Type 0) (piece : List ℕ) → A piece →
      (N : EncodeError → Type 0) (before after : W) (e : EncodeError) → refuses before piece e after → EncodeFailure adds refuses A N before after e
  halts-alone none A piece a N before after e r = by_writer [] piece before (none before) r (λ some h. ([], subst A (sym (append-nil piece)) a))

  -- pieces whose concatenation is the whole word
  pub halts-among : (A : List ℕ → Type 0) (pieces : List (List ℕ)) → A (concat_pieces pieces) →
      (N : EncodeError → Type 0) (before after : W) (e : EncodeError) → StopsAmong adds refuses pieces before e after →
      EncodeFailure adds refuses A N before after e
  halts-among A pieces a N before after e s =
      by_writer (concat_pieces s.written) s.piece s.middle s.added s.refusal
      (λ some h. (concat_pieces s.others, subst A (ap concat_pieces s.pieces_are ∙ joined_append s.written (s.piece ∷ s.others) ∙ sym (append_assoc (concat_pieces s.written) s.piece (concat_pieces s.others))) a))
    where
      joined_append : (x y : List (List ℕ)) → concat_pieces (x ++ y) ≡ concat_pieces x ++ concat_pieces y
      joined_append [] y = refl
      joined_append (p ∷ x) y = ap (λ z. p ++ z) (joined_append x y) ∙ sym (append_assoc p (concat_pieces x) (concat_pieces y))

-- A whole whose words are those of two parts in turn, and which can be written if they can.
module _ {R S U : Type 0} (pair : R → S → U) (split : U → R × S) {A B C : List ℕ → Type 0} (to : (bytes : List ℕ) → Both A B bytes → C bytes) (from : (bytes : List ℕ) → C bytes → Both A B bytes) where
  whole_ready : (bytes : List ℕ) → Both (IsReady R A) (IsReady S B) bytes → IsReady U C bytes
  whole_ready bytes (x, y, e, a, b) = record { is_writable = pair a.is_writable b.is_writable; is_allowed = to bytes (x, y, e, a.is_allowed, b.is_allowed) }

  parts_ready : (bytes : List ℕ) → IsReady U C bytes → Both (IsReady R A) (IsReady S B) bytes
  parts_ready bytes w =
      let b = from bytes w.is_allowed in
      let r = split w.is_writable in
      (b.0, b.1, b.2, record { is_writable = r.0; is_allowed = b.3 }, record { is_writable = r.1; is_allowed = b.4 })

  module _ {W : Type 0} (adds : Adds W) (refuses : Refuses W) (N M K : EncodeError → Type 0) (e : EncodeError) (more : N e ⊎ M e → K e) where
    -- if encoding its first part fails, so does the whole
    pub halts-in_first : (before after : W) → EncodeFailure adds refuses (IsReady R A) N before after e → EncodeFailure adds refuses (IsReady U C) K before after e
    halts-in_first before after h =
        halts-same adds refuses (Both (IsReady R A) (IsReady S B)) (IsReady U C) K before after e whole_ready parts_ready
        (halts-named adds refuses (Both (IsReady R A) (IsReady S B)) (λ d. N d ⊎ M d) K before after e more (halts-first adds refuses (IsReady R A) (IsReady S B) N M before after e h))

    -- and if encoding the second does
    pub halts-in_next : ((a b c : W) (x y : List ℕ) → adds a x b → adds b y c → adds a (x ++ y) c) → (before between after : W) →
        Writes adds A before between → EncodeFailure adds refuses (IsReady S B) M between after e → EncodeFailure adds refuses (IsReady U C) K before after e
    halts-in_next join before between after v h =
        halts-same adds refuses (Both (IsReady R A) (IsReady S B)) (IsReady U C) K before after e whole_ready parts_ready
        (halts-named adds refuses (Both (IsReady R A) (IsReady S B)) (λ d. N d ⊎ M d) K before after e more (halts-next adds refuses join R A (IsReady S B) N M before between after e v h))
