-- What was encoded of a shape, from what was encoded of its parts.
use Rattle.std.specs.declared.alloc.Global.{Global}
use Rattle.std.specs.declared.vec.Vec.{Vec}
use Rattle.std.proofs.lemmas.Bool.{eqb-true}
use Rattle.std.proofs.lemmas.List.{drop_more}
use Rattle.bincode_spec.specs.Meaning.{list_meaning}
use Rattle.bincode_spec.specs.Run.{IsListOf}
use Rattle.bincode_spec.specs.Words.{array, list}
use Rattle.bincode_shape.specs.declared.shape.Shape as shapes
use Rattle.bincode_shape.specs.declared.shape.Shape.{Shape}
use Rattle.bincode_shape.specs.declared.shape.Value as values
use Rattle.bincode_shape.specs.declared.shape.Value.{Value, items_hidden-the_row-Value-0}
use Rattle.bincode_shape.specs.Shapes.{format_of, fits, is_unit, share, numbered_variants, one_of, each_passes, meaning, IsMeant}
use Rattle.bincode_shape.specs.Rows.{formats, tests, AllowsImage, AllowsImages, formats_of-vec, meanings_of-vec}
use Rattle.bincode_shape_codec.proofs.Writing.{list-meant, meant-list, images-both, both-images, WritesSome, some-more, some-halts}
use Rattle.bincode_spec.specs.Encoding.{Writes, IsReady, EncodeFailure}
use Rattle.std.specs.Prelude.{◌≡◌, ◌⊎◌, ℕ, zero, suc, ◌+◌, ◌<◌, ◌≤◌, pos, ◌==◌, ◌&&◌, Bool, true, false, List, [], ◌∷◌, ◌++◌, length, get_or, drop, Box, Result, Ok, Err, refl}
use Rattle.std.specs.List.{All, list_all}
use Rattle.std.specs.Borrow.{GName}
use Rattle.std.proofs.Common.{inl, inr, sym, ◌∙◌, ap, subst, arith, append-nil}
use Rattle.std.proofs.lemmas.List.Elements.{All-nil, All-cons}
use Rattle.bincode_base.specs.Setting.{Setting}
use Rattle.bincode_base.specs.declared.error.EncodeError.{EncodeError}
use Rattle.bincode_spec.specs.Allowed.{AllowedWord}
use Rattle.bincode_lemmas.specs.Sequences.{Both}
use Rattle.bincode_spec.specs.Encoding.{Adds, Refuses, Encodes}
use Rattle.bincode_spec.specs.Format.{Format, map_format}
use Rattle.bincode_spec.specs.Meaning.{Meaning, Nothing, Choice, IsNumber}
use Rattle.bincode_spec.specs.Words.{natural_number, nothing, Variant, after_tag, tag_then_part}
use Rattle.bincode_lemmas.specs.AllowedLaws.{more-allowed, nothing-allows, allowed-nothing}
use Rattle.bincode_lemmas.specs.ChoiceLaws.{same-alike, choice-allows, allowed-choice}
use Rattle.bincode_encoder.proofs.EncodingAnswers.{Joined, encodes-as, first-halts, next-encodes}

none_more : (e : EncodeError) → ⊥ ⊎ ⊥ → ⊥
none_more e = elim [ inl k ↦ k | inr k ↦ k ]

module _ (tags : Setting → Format ℕ) (variants : List Variant) (s : Setting) (n : ℕ) (F : Format Meaning) (picked : after_tag variants s n ≡ map_format (Choice n) F) (part : Meaning) where
  -- a choice allows the tag followed by the part
  tagged : (bytes : List ℕ) → Both (AllowedWord (IsNumber (pos n)) (natural_number (tags s))) (AllowedWord (λ m. m ≡ part) F) bytes → AllowedWord (λ m. m ≡ Choice n part) (tag_then_part tags variants s) bytes
  tagged bytes b = more-allowed (λ m h. h.meaning_is ∙ ap (Choice n) h.is_part) bytes (choice-allows tags variants s n F (same-alike picked) (λ m. m ≡ part) bytes b)

  untagged : (bytes : List ℕ) → AllowedWord (λ m. m ≡ Choice n part) (tag_then_part tags variants s) bytes → Both (AllowedWord (IsNumber (pos n)) (natural_number (tags s))) (AllowedWord (λ m. m ≡ part) F) bytes
  untagged bytes w =
      allowed-choice tags variants s n F (same-alike picked) (λ m. m ≡ part) bytes
      (more-allowed (λ m h. record { part = part; meaning_is = h; is_part = refl }) bytes w)

  module _ {E W T V : Type 0} {adds : Adds W} {refuses : Refuses W} {writer_of : E → W} {loans : E → List GName} {old new : E} where
    pub tag-halts : {e : EncodeError} → Encodes {T = T} adds refuses writer_of loans (Unit {0}) (AllowedWord (IsNumber (pos n)) (natural_number (tags s))) (λ _. ⊥) (Err e) old new →
        Encodes {T = V} adds refuses writer_of loans (Unit {0}) (AllowedWord (λ m. m ≡ Choice n part) (tag_then_part tags variants s)) (λ _. ⊥) (Err e) old new
    tag-halts = first-halts {R = Unit {0}} {S = Unit {0}} {U = Unit {0}} (λ _ _. tt) (λ _. (tt, tt)) tagged untagged {M = λ _. ⊥} none_more

    pub choice-encodes : {t : T} {r : Result V EncodeError} {between : E} → Joined adds →
        Encodes adds refuses writer_of loans (Unit {0}) (AllowedWord (IsNumber (pos n)) (natural_number (tags s))) (λ _. ⊥) (Ok t) old between →
        Encodes adds refuses writer_of loans (Unit {0}) (AllowedWord (λ m. m ≡ part) F) (λ _. ⊥) r between new →
        Encodes adds refuses writer_of loans (Unit {0}) (AllowedWord (λ m. m ≡ Choice n part) (tag_then_part tags variants s)) (λ _. ⊥) r old new
    choice-encodes = next-encodes {R = Unit {0}} {S = Unit {0}} {U = Unit {0}} (λ _ _. tt) (λ _. (tt, tt)) tagged untagged {M = λ _. ⊥} none_more

-- a variant without a part is its tag alone
module _ (tags : Setting → Format ℕ) (variants : List Variant) (s : Setting) (n : ℕ) (picked : after_tag variants s n ≡ map_format (Choice n) nothing) where
  alone : (bytes : List ℕ) → AllowedWord (IsNumber (pos n)) (natural_number (tags s)) bytes → AllowedWord (λ m. m ≡ Choice n Nothing) (tag_then_part tags variants s) bytes
  alone bytes a = tagged tags variants s n nothing picked Nothing bytes (bytes, [], sym (append-nil bytes), a, nothing-allows)

  alone_back : (bytes : List ℕ) → AllowedWord (λ m. m ≡ Choice n Nothing) (tag_then_part tags variants s) bytes → AllowedWord (IsNumber (pos n)) (natural_number (tags s)) bytes
  alone_back bytes w =
      let b = untagged tags variants s n nothing picked Nothing bytes w in
      let e : bytes ≡ b.0 = b.2 ∙ ap (λ z. b.0 ++ z) (allowed-nothing b.1 b.4) ∙ append-nil b.0 in
      subst (AllowedWord (IsNumber (pos n)) (natural_number (tags s))) (sym e) b.3

  pub tag-encodes : {E W T : Type 0} {adds : Adds W} {refuses : Refuses W} {writer_of : E → W} {loans : E → List GName} {old new : E} {r : Result T EncodeError} →
      Encodes adds refuses writer_of loans (Unit {0}) (AllowedWord (IsNumber (pos n)) (natural_number (tags s))) (λ _. ⊥) r old new →
      Encodes adds refuses writer_of loans (Unit {0}) (AllowedWord (λ m. m ≡ Choice n Nothing) (tag_then_part tags variants s)) (λ _. ⊥) r old new
  tag-encodes = encodes-as alone alone_back (λ u. u) (λ e k. k)

both_left : (x y : Bool) → x && y ≡ true → x ≡ true
both_left true y k = refl
both_left false y k = absurd (cc)

both_right : (x y : Bool) → x && y ≡ true → y ≡ true
both_right true y k = k
both_right false y k = absurd (cc)

-- if these items fit, so do the one at an index and those after it
pub all-there : (test : Value → Bool) (vs : List Value) (i : ℕ) (v : Value) → i < length vs → v ≡ get_or vs i v → list_all test (drop i vs) ≡ true → test v ≡ true
all-there test vs i v h e a = both_left (test v) (list_all test (drop (i + 1) vs)) (rw (drop_more vs i v h, ← e) at a)

pub all-after : (test : Value → Bool) (vs : List Value) (i : ℕ) (v : Value) → i < length vs → list_all test (drop i vs) ≡ true → list_all test (drop (i + 1) vs) ≡ true
all-after test vs i v h a = both_right (test (get_or vs i v)) (list_all test (drop (i + 1) vs)) (rw (drop_more vs i v h) at a)

module _ {E W T : Type 0} {adds : Adds W} {refuses : Refuses W} {writer_of : E → W} {loans : E → List GName} {old new : E} {r : Result T EncodeError} where
  -- a list
  pub seq-encodes : (s : Setting) (claim : ℕ) (b : Box Shape Global) (v : Vec Value Global) →
      Encodes adds refuses writer_of loans (Unit {0}) (AllowedWord (IsListOf IsMeant v.items) (list s (share claim) (format_of b.value s))) (λ _. ⊥) r old new →
      Encodes adds refuses writer_of loans (Unit {0}) (AllowsImage s (shapes.Seq claim b) (values.List v)) (λ _. ⊥) r old new
  seq-encodes s claim b v =
      encodes-as (more-allowed (λ m h. list-meant v.items m h ∙ sym (ap list_meaning (meanings_of-vec v)))) (more-allowed (λ m h. meant-list v.items m (h ∙ ap list_meaning (meanings_of-vec v))))
      (λ u. u) (λ e k. k)

  -- an array
  pub array-encodes : (s : Setting) (len claim : ℕ) (b : Box Shape Global) (v : Vec Value Global) → length v.items ≡ len →
      Encodes adds refuses writer_of loans (Unit {0}) (AllowedWord (IsListOf IsMeant v.items) (array (length v.items) (share claim) (format_of b.value s))) (λ _. ⊥) r old new →
      Encodes adds refuses writer_of loans (Unit {0}) (AllowsImage s (shapes.Array len claim b) (values.List v)) (λ _. ⊥) r old new
  array-encodes s len claim b v many =
      rw many (encodes-as (more-allowed (λ m h. list-meant v.items m h ∙ sym (ap list_meaning (meanings_of-vec v))))
      (more-allowed (λ m h. meant-list v.items m (h ∙ ap list_meaning (meanings_of-vec v)))) (λ u. u) (λ e k. k))

  -- a tuple
  pub tuple-encodes : (s : Setting) (p : Vec Shape Global) (v : Vec Value Global) →
      Encodes adds refuses writer_of loans (Unit {0}) (AllowsImages s p.items v.items) (λ _. ⊥) r old new →
      Encodes adds refuses writer_of loans (Unit {0}) (AllowsImage s (shapes.Tuple p) (values.List v)) (λ _. ⊥) r old new
  tuple-encodes s p v w =
      rw (formats_of-vec p) (encodes-as (more-allowed (λ m h. h ∙ sym (ap list_meaning (meanings_of-vec v)))) (more-allowed (λ m h. h ∙ ap list_meaning (meanings_of-vec v))) (λ u. u) (λ e k. k) w)

  -- a choice
  pub one_of-encodes : (s : Setting) (p : Vec Shape Global) (n : ℕ) (b : Box Value Global) →
      Encodes adds refuses writer_of loans (Unit {0}) (AllowedWord (λ m. m ≡ Choice n (meaning b.value)) (one_of (numbered_variants 0 (formats p.items)) s)) (λ _. ⊥) r old new →
      Encodes adds refuses writer_of loans (Unit {0}) (AllowsImage s (shapes.Choice p) (values.Choice n b)) (λ _. ⊥) r old new
  one_of-encodes s p n b w = rw (formats_of-vec p) w

-- all that is asked of items that can always be written
pub all_units : (vs : List Value) → All (λ _. Unit {0}) vs
all_units [] = All-nil (λ _. Unit {0})
all_units (v ∷ vs) = All-cons (λ _. Unit {0}) v vs tt (all_units vs)

-- the value of no parts
pub unit-is : (v : Value) → is_unit v ≡ true → v ≡ values.Unit
unit-is values.Unit h = refl
unit-is (values.Bool b) h = absurd (cc)
unit-is (values.Char c) h = absurd (cc)
unit-is (values.Text t) h = absurd (cc)
unit-is (values.Unsigned n) h = absurd (cc)
unit-is (values.Signed z) h = absurd (cc)
unit-is (values.List' v items) h = absurd (cc)
unit-is (values.Optional' part) h = absurd (cc)
unit-is (values.Choice' n p part) h = absurd (cc)

-- an array has as many items as it says
pub array-length : (len claim : ℕ) (b : Box Shape Global) (v : Vec Value Global) → fits (shapes.Array len claim b) (values.List v) ≡ true → length v.items ≡ len
array-length len claim b v h = eqb-true (length v.items) len (both_left (length v.items == len) (list_all (fits b.value) v.items) (rw (items_hidden-the_row-Value-0 v) at h))

pub unit-encodes : {E W : Type 0} (adds : Adds W) {refuses : Refuses W} {writer_of : E → W} {loans : E → List GName} (s : Setting) (e : E) → ((w : W) → adds w [] w) →
    Encodes {T = Unit {0}} adds refuses writer_of loans (Unit {0}) (AllowsImage s shapes.Unit values.Unit) (λ _. ⊥) (Ok tt) e e
unit-encodes adds {writer_of = writer_of} s e none = record { ok = record { word = []; is_allowed = nothing-allows; added = none (writer_of e) }; err = tt; same_loans = refl }

-- as many items as parts, each of which fits its own
pub each-length : (ps : List Shape) (vs : List Value) → each_passes (tests ps) vs ≡ true → length ps ≡ length vs
each-length [] [] h = refl
each-length [] (v ∷ vs) h = absurd (cc)
each-length (p ∷ ps) [] h = absurd (cc)
each-length (p ∷ ps) (v ∷ vs) h = ap suc (each-length ps vs (both_right (fits p v) (each_passes (tests ps) vs) h))

no_item : (vs : List Value) → each_passes [] vs ≡ true → vs ≡ []
no_item [] h = refl
no_item (v ∷ vs) h = absurd (cc)

drop_all : {A : Type 0} (xs : List A) (i : ℕ) → length xs ≤ i → drop i xs ≡ []
drop_all [] zero h = refl
drop_all [] (suc i) h = refl
drop_all (x ∷ xs) zero h = absurd (omega arith)
drop_all (x ∷ xs) (suc i) h = drop_all xs i (omega (arith, h))

-- what is left at an index
left_at : {A : Type 0} (xs : List A) (i : ℕ) (x : A) → i < length xs → x ≡ get_or xs i x → drop i xs ≡ x ∷ drop (i + 1) xs
left_at xs i x h e = drop_more xs i x h ∙ ap (λ z. z ∷ drop (i + 1) xs) (sym e)

module _ (s : Setting) (ps : List Shape) (vs : List Value) (i : ℕ) (p : Shape) (v : Value) (h : i < length ps) (k : i < length vs) (at_p : p ≡ get_or ps i p) (at_v : v ≡ get_or vs i v) where
  -- the item there fits, and so do those after it
  pub each-there : each_passes (tests (drop i ps)) (drop i vs) ≡ true → fits p v ≡ true
  each-there a = both_left (fits p v) (each_passes (tests (drop (i + 1) ps)) (drop (i + 1) vs)) (rw (left_at ps i p h at_p, left_at vs i v k at_v) at a)

  pub each-after : each_passes (tests (drop i ps)) (drop i vs) ≡ true → each_passes (tests (drop (i + 1) ps)) (drop (i + 1) vs) ≡ true
  each-after a = both_right (fits p v) (each_passes (tests (drop (i + 1) ps)) (drop (i + 1) vs)) (rw (left_at ps i p h at_p, left_at vs i v k at_v) at a)

  module _ {W : Type 0} (adds : Adds W) (refuses : Refuses W) (Whole : List ℕ → Type 0) (before between after : W) (join : Joined adds) where
    pub parts-more : WritesSome adds (AllowsImages s (drop i ps) (drop i vs)) Whole before between → Writes adds (AllowsImage s p v) between after →
        WritesSome adds (AllowsImages s (drop (i + 1) ps) (drop (i + 1) vs)) Whole before after
    parts-more so_far w =
        some-more adds join (AllowsImage s p v) (AllowsImages s (drop (i + 1) ps) (drop (i + 1) vs)) (AllowsImages s (p ∷ drop (i + 1) ps) (v ∷ drop (i + 1) vs)) Whole
        (images-both s p (drop (i + 1) ps) v (drop (i + 1) vs)) (both-images s p (drop (i + 1) ps) v (drop (i + 1) vs)) before between after
        (rw (left_at ps i p h at_p, left_at vs i v k at_v) at so_far) w

    pub parts-halt : {e : EncodeError} → WritesSome adds (AllowsImages s (drop i ps) (drop i vs)) Whole before between →
        EncodeFailure adds refuses (IsReady (Unit {0}) (AllowsImage s p v)) (λ _. ⊥) between after e → EncodeFailure adds refuses (IsReady (Unit {0}) Whole) (λ _. ⊥) before after e
    parts-halt {e} so_far w =
        some-halts adds join (AllowsImage s p v) (AllowsImages s (drop (i + 1) ps) (drop (i + 1) vs)) (AllowsImages s (p ∷ drop (i + 1) ps) (v ∷ drop (i + 1) vs)) Whole
        (images-both s p (drop (i + 1) ps) v (drop (i + 1) vs)) (both-images s p (drop (i + 1) ps) v (drop (i + 1) vs)) refuses before between after e
        (rw (left_at ps i p h at_p, left_at vs i v k at_v) at so_far) w

-- all parts were written
pub parts-written : {W : Type 0} (adds : Adds W) (s : Setting) (ps : List Shape) (vs : List Value) (i : ℕ) (Whole : List ℕ → Type 0) (before after : W) → length ps ≤ i →
    each_passes (tests (drop i ps)) (drop i vs) ≡ true → WritesSome adds (AllowsImages s (drop i ps) (drop i vs)) Whole before after → Writes adds Whole before after
parts-written adds s ps vs i Whole before after past each so_far =
    let none : drop i ps ≡ [] = drop_all ps i past in
    let nor : drop i vs ≡ [] = no_item (drop i vs) (rw none at each) in
    let w = rw (none, nor) at so_far in
    record { word = w.front; is_allowed = subst Whole (append-nil w.front) (w.completes [] nothing-allows); added = w.added }
