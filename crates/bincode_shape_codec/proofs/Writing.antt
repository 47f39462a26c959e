-- Encoding the parts of a tuple, one by one.
use Rattle.std.specs.Prelude.{◌≡◌, ℕ, List, [], ◌∷◌, ◌++◌, map, refl}
use Rattle.std.proofs.Common.{sym, ◌∙◌, ap, subst, append_assoc}
use Rattle.bincode_base.specs.Setting.{Setting}
use Rattle.bincode_base.specs.declared.error.EncodeError.{EncodeError}
use Rattle.bincode_lemmas.specs.Sequences.{Both}
use Rattle.bincode_spec.specs.Encoding.{Adds, Refuses, Writes, IsReady, Begins, EncodeFailure, by_writer, by_name}
use Rattle.bincode_spec.specs.Meaning.{Meaning, list_meaning}
use Rattle.bincode_spec.specs.Run.{IsListOf}
use Rattle.bincode_spec.specs.Words.{tuple}
use Rattle.bincode_lemmas.specs.AllowedLaws.{more-allowed, tuple-allows, allowed-tuple}
use Rattle.bincode_shape.specs.declared.shape.Shape.{Shape}
use Rattle.bincode_shape.specs.declared.shape.Value.{Value}
use Rattle.bincode_shape.specs.Shapes.{format_of, at, meaning, IsMeant}
use Rattle.bincode_shape.specs.Rows.{formats, AllowsImage, AllowsImages}

-- items of one shape
pub list-meant : (vs : List Value) (m : Meaning) → IsListOf IsMeant vs m → m ≡ list_meaning (map meaning vs)
list-meant [] m h = h
list-meant (v ∷ vs) m h = h.meaning_is ∙ rw (h.is_first, list-meant vs h.others h.are_others) refl

pub meant-list : (vs : List Value) (m : Meaning) → m ≡ list_meaning (map meaning vs) → IsListOf IsMeant vs m
meant-list [] m h = h
meant-list (v ∷ vs) m h = record { first = meaning v; others = list_meaning (map meaning vs); meaning_is = h; is_first = refl; are_others = meant-list vs (list_meaning (map meaning vs)) refl }

module _ (s : Setting) (shape : Shape) (shapes : List Shape) (v : Value) (vs : List Value) where
  pub images-both : (bytes : List ℕ) → Both (AllowsImage s shape v) (AllowsImages s shapes vs) bytes → AllowsImages s (shape ∷ shapes) (v ∷ vs) bytes
  images-both bytes b =
      more-allowed (λ m h. h.meaning_is ∙ rw (h.is_first, h.are_others) refl) bytes
      (tuple-allows (IsMeant v) (λ m. m ≡ list_meaning (map meaning vs)) (format_of shape s) (tuple (at s (formats shapes))) bytes b)

  pub both-images : (bytes : List ℕ) → AllowsImages s (shape ∷ shapes) (v ∷ vs) bytes → Both (AllowsImage s shape v) (AllowsImages s shapes vs) bytes
  both-images bytes w =
      allowed-tuple (IsMeant v) (λ m. m ≡ list_meaning (map meaning vs)) (format_of shape s) (tuple (at s (formats shapes))) bytes
      (more-allowed (λ m h. record { first = meaning v; others = list_meaning (map meaning vs); meaning_is = h; is_first = refl; are_others = refl }) bytes w)

-- some bytes were written, which any word of the rest completes to a word of the whole
pub record WritesSome {W : Type 0} (adds : Adds W) (Rest Whole : List ℕ → Type 0) (before after : W) : Type 0 where
  pub front : List ℕ
  pub added : adds before front after
  pub completes : (rest : List ℕ) → Rest rest → Whole (front ++ rest)
  pub is_left : (some : List ℕ) → Whole some → (rest : List ℕ) × Rest rest

module _ {W : Type 0} (adds : Adds W) (join : (a b c : W) (x y : List ℕ) → adds a x b → adds b y c → adds a (x ++ y) c) (Part Others Rest Whole : List ℕ → Type 0)
    (to : (bytes : List ℕ) → Both Part Others bytes → Rest bytes) (from : (bytes : List ℕ) → Rest bytes → Both Part Others bytes) where
  -- one part more
  pub some-more : (before between after : W) → WritesSome adds Rest Whole before between → Writes adds Part between after → WritesSome adds Others Whole before after
  some-more before between after h w = record {
    front = h.front ++ w.word;
    added = join before between after h.front w.word h.added w.added;
    completes = λ rest o. subst Whole (sym (append_assoc h.front w.word rest)) (h.completes (w.word ++ rest) (to (w.word ++ rest) (w.word, rest, refl, w.is_allowed, o)));
    is_left = λ some k. let r = h.is_left some k in let b = from r.0 r.1 in (b.1, b.4);
  }

  begins-more : (before between : W) (h : WritesSome adds Rest Whole before between) (front : List ℕ) → Begins (IsReady (Unit {0}) Part) front → Begins (IsReady (Unit {0}) Whole) (h.front ++ front)
  begins-more before between h front g some k =
      let r = h.is_left some k.is_allowed in
      let b = from r.0 r.1 in
      let p = g b.0 (record { is_writable = tt; is_allowed = b.3 }) in
      let q = to ((front ++ p.0) ++ b.1) (front ++ p.0, b.1, refl, p.1.is_allowed, b.4) in
      let e : h.front ++ ((front ++ p.0) ++ b.1) ≡ (h.front ++ front) ++ (p.0 ++ b.1) =
      ap (λ z. h.front ++ z) (append_assoc front p.0 b.1) ∙ sym (append_assoc h.front front (p.0 ++ b.1)) in
      (p.0 ++ b.1, record { is_writable = tt; is_allowed = subst Whole e (h.completes ((front ++ p.0) ++ b.1) q) })

  -- if encoding a part fails, so does the whole
  pub some-halts : (refuses : Refuses W) (before between after : W) (e : EncodeError) → WritesSome adds Rest Whole before between →
      EncodeFailure adds refuses (IsReady (Unit {0}) Part) (λ _. ⊥) between after e → EncodeFailure adds refuses (IsReady (Unit {0}) Whole) (λ _. ⊥) before after e
  some-halts refuses before between after e h (by_writer front piece middle a r g) =
      by_writer (h.front ++ front) piece middle (join before between middle h.front front h.added a) r
      (subst (Begins (IsReady (Unit {0}) Whole)) (sym (append_assoc h.front front piece)) (begins-more before between h (front ++ piece) g))
  some-halts refuses before between after e h (by_name front a n o) = absurd n

-- at first nothing was written, at last everything
pub some-none : {W : Type 0} (adds : Adds W) (none : (w : W) → adds w [] w) (Whole : List ℕ → Type 0) (w : W) → WritesSome adds Whole Whole w w
some-none adds none Whole w = record { front = []; added = none w; completes = λ rest h. h; is_left = λ some h. (some, h) }
