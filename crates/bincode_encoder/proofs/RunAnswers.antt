-- `Encodes` of a run, from those of its items.
use Rattle.std.specs.Prelude.{◌≡◌, ◌⊎◌, ℕ, ◌+◌, ◌<◌, ◌≤◌, List, [], ◌∷◌, ◌++◌, length, take, drop, slice_index_or, refl}
use Rattle.std.specs.List.{All}
use Rattle.std.proofs.Common.{sym, ◌∙◌, ap, subst, inl, inr, append_assoc, append-nil}
use Rattle.std.proofs.lemmas.List.{take_more, take_all, take-append-drop}
use Rattle.std.proofs.lemmas.List.Elements.{All-nil, All-cons, All-head, All-tail}
use Rattle.bincode_base.specs.declared.error.EncodeError.{EncodeError}
use Rattle.bincode_spec.specs.Format.{Format}
use Rattle.bincode_spec.specs.Meaning.{Meaning}
use Rattle.bincode_spec.specs.Words.{array}
use Rattle.bincode_spec.specs.Allowed.{AllowedWord}
use Rattle.bincode_lemmas.specs.Sequences.{Both}
use Rattle.bincode_spec.specs.Run.{IsListOf}
use Rattle.bincode_lemmas.specs.Sequences.{AllowsEach}
use Rattle.bincode_lemmas.specs.RunAllowedLaws.{array-allows, allowed-array, each-join, each-split}
use Rattle.bincode_spec.specs.Encoding.{Adds, Refuses, Writes, IsReady, EncodeFailure}
use Rattle.bincode_lemmas.specs.EncodingLaws.{writes-both, writes-same, halts-first, halts-next, halts-same, halts-named, ready-as}

-- the items before an index, the item there, and those after it
around : {A : Type 0} (vs : List A) (i : ℕ) (v : A) → i < length vs → v ≡ slice_index_or vs i v → vs ≡ take i vs ++ v ∷ drop (i + 1) vs
around vs i v h e =
    let p : take (i + 1) vs ≡ take i vs ++ v ∷ [] = take_more vs i v h ∙ ap (λ z. take i vs ++ z ∷ []) (sym e) in
    sym (take-append-drop (i + 1) vs) ∙ ap (λ z. z ++ drop (i + 1) vs) p ∙ append_assoc (take i vs) (v ∷ []) (drop (i + 1) vs)

module _ {W : Type 0} (adds : Adds W) where
  -- one more item
  pub writes-push : ((a b c : W) (x y : List ℕ) → adds a x b → adds b y c → adds a (x ++ y) c) →
      {A : Type 0} (Allowed : A → List ℕ → Type 0) (before between after : W) (vs : List A) (v : A) →
      Writes adds (AllowsEach Allowed vs) before between → Writes adds (Allowed v) between after → Writes adds (AllowsEach Allowed (vs ++ v ∷ [])) before after
  writes-push join Allowed before between after vs v w u =
      let one : Writes adds (AllowsEach Allowed (v ∷ [])) between after = record { word = u.word; is_allowed = (u.word, [], sym (append-nil u.word), u.is_allowed, refl); added = u.added } in
      writes-same adds _ (AllowsEach Allowed (vs ++ v ∷ [])) before after (each-join Allowed vs (v ∷ [])) (writes-both adds join _ _ before between after w one)

  pub writes-more : ((a b c : W) (x y : List ℕ) → adds a x b → adds b y c → adds a (x ++ y) c) →
      {A : Type 0} (Allowed : A → List ℕ → Type 0) (before between after : W) (vs : List A) (i : ℕ) (v : A) → i < length vs →
      v ≡ slice_index_or vs i v →
      Writes adds (AllowsEach Allowed (take i vs)) before between → Writes adds (Allowed v) between after → Writes adds (AllowsEach Allowed (take (i + 1) vs)) before after
  writes-more join Allowed before between after vs i v h e w u =
      let p : take i vs ++ v ∷ [] ≡ take (i + 1) vs = ap (λ z. take i vs ++ z ∷ []) e ∙ sym (take_more vs i v h) in
      subst (λ z. Writes adds (AllowsEach Allowed z) before after) p (writes-push join Allowed before between after (take i vs) v w u)

  -- all the items are the array
  pub writes-array : {A : Type 0} (Means : A → Meaning → Type 0) (share : ℕ) (F : Format Meaning) (n i : ℕ) (vs : List A) (before after : W) →
      length vs ≡ n → length vs ≤ i → Writes adds (AllowsEach (λ v. AllowedWord (Means v) F) (take i vs)) before after →
      Writes adds (AllowedWord (IsListOf Means vs) (array n share F)) before after
  writes-array Means share F n i vs before after e h w =
      writes-same adds _ _ before after (λ bytes. array-allows Means share F n vs bytes e) (subst (λ z. Writes adds (AllowsEach (λ v. AllowedWord (Means v) F) z) before after) (take_all i vs h) w)

-- what each value allows, if it can be written
module _ {A : Type 0} (Writable : A → Type 0) (Allowed : A → List ℕ → Type 0) where
  abbrev pub ReadyEach : A → List ℕ → Type 0
  ReadyEach v = IsReady (Writable v) (Allowed v)

  ready_each : (vs : List A) (bytes : List ℕ) → IsReady (All Writable vs) (AllowsEach Allowed vs) bytes → AllowsEach ReadyEach vs bytes
  ready_each [] bytes w = w.is_allowed
  ready_each (v ∷ vs) bytes w =
      let b = w.is_allowed in (
        b.0,
        b.1,
        b.2,
        record { is_writable = All-head Writable v vs w.is_writable; is_allowed = b.3 },
        ready_each vs b.1
            (record { is_writable = All-tail Writable v vs w.is_writable; is_allowed = b.4 }),
      )

  each_ready : (vs : List A) (bytes : List ℕ) → AllowsEach ReadyEach vs bytes → IsReady (All Writable vs) (AllowsEach Allowed vs) bytes
  each_ready [] bytes e = record { is_writable = All-nil Writable; is_allowed = e }
  each_ready (v ∷ vs) bytes (x, y, e, a, b) =
      let w = each_ready vs y b in
      record { is_writable = All-cons Writable v vs a.is_writable w.is_writable; is_allowed = (x, y, e, a.is_allowed, w.is_allowed) }

  -- those before one, that one, and those after it
  ready_around : (xs ys : List A) (v : A) (bytes : List ℕ) →
      Both (IsReady (All Writable xs) (AllowsEach Allowed xs)) (Both (ReadyEach v) (AllowsEach ReadyEach ys)) bytes →
      IsReady (All Writable (xs ++ v ∷ ys)) (AllowsEach Allowed (xs ++ v ∷ ys)) bytes
  ready_around xs ys v bytes (x, y, e, a, b) = each_ready (xs ++ v ∷ ys) bytes (each-join ReadyEach xs (v ∷ ys) bytes (x, y, e, ready_each xs x a, b))

  around_ready : (xs ys : List A) (v : A) (bytes : List ℕ) → IsReady (All Writable (xs ++ v ∷ ys)) (AllowsEach Allowed (xs ++ v ∷ ys)) bytes →
      Both (IsReady (All Writable xs) (AllowsEach Allowed xs)) (Both (ReadyEach v) (AllowsEach ReadyEach ys)) bytes
  around_ready xs ys v bytes w =
      let b = each-split ReadyEach xs (v ∷ ys) bytes (ready_each (xs ++ v ∷ ys) bytes w) in
      (b.0, b.1, b.2, each_ready xs b.0 b.3, b.4)

module _ {W : Type 0} (adds : Adds W) (refuses : Refuses W) where
  one_of : (N : EncodeError → Type 0) (e : EncodeError) → N e ⊎ (N e ⊎ N e) → N e
  one_of N e (inl h) = h
  one_of N e (inr (inl h)) = h
  one_of N e (inr (inr h)) = h

  -- if encoding an item fails, so does the run
  pub halts-between : ((a b c : W) (x y : List ℕ) → adds a x b → adds b y c → adds a (x ++ y) c) →
      {A : Type 0} (Writable : A → Type 0) (Allowed : A → List ℕ → Type 0) (N : EncodeError → Type 0) (before between after : W) (xs ys : List A) (v : A) (e : EncodeError) →
      Writes adds (AllowsEach Allowed xs) before between → EncodeFailure adds refuses (IsReady (Writable v) (Allowed v)) N between after e →
      EncodeFailure adds refuses (IsReady (All Writable (xs ++ v ∷ ys)) (AllowsEach Allowed (xs ++ v ∷ ys))) N before after e
  halts-between join Writable Allowed N before between after xs ys v e w u =
      let first = halts-first adds refuses (ReadyEach Writable Allowed v) (AllowsEach (ReadyEach Writable Allowed) ys) N N between after e u in
      let next =
      halts-next adds refuses join (All Writable xs) (AllowsEach Allowed xs)
      (Both (ReadyEach Writable Allowed v) (AllowsEach (ReadyEach Writable Allowed) ys)) N (λ d. N d ⊎ N d) before between after e w first in
      let all =
      halts-same adds refuses _ (IsReady (All Writable (xs ++ v ∷ ys)) (AllowsEach Allowed (xs ++ v ∷ ys))) _ before after e
      (ready_around Writable Allowed xs ys v) (around_ready Writable Allowed xs ys v) next in
      halts-named adds refuses _ _ N before after e (one_of N e) all

  pub halts-at : ((a b c : W) (x y : List ℕ) → adds a x b → adds b y c → adds a (x ++ y) c) →
      {A : Type 0} (Writable : A → Type 0) (Allowed : A → List ℕ → Type 0) (N : EncodeError → Type 0) (before between after : W) (vs : List A) (i : ℕ) (v : A) (e : EncodeError) →
      i < length vs → v ≡ slice_index_or vs i v →
      Writes adds (AllowsEach Allowed (take i vs)) before between → EncodeFailure adds refuses (IsReady (Writable v) (Allowed v)) N between after e →
      EncodeFailure adds refuses (IsReady (All Writable vs) (AllowsEach Allowed vs)) N before after e
  halts-at join Writable Allowed N before between after vs i v e h k w u =
      subst (λ z. EncodeFailure adds refuses (IsReady (All Writable z) (AllowsEach Allowed z)) N before after e) (sym (around vs i v h k))
      (halts-between join Writable Allowed N before between after (take i vs) (drop (i + 1) vs) v e w u)

  -- and so does the array
  pub halts_array :
      {A : Type 0} (Means : A → Meaning → Type 0) (share : ℕ) (F : Format Meaning) (R : Type 0) (N : EncodeError → Type 0) (n : ℕ) (vs : List A) (before after : W) (e : EncodeError) →
      length vs ≡ n → EncodeFailure adds refuses (IsReady R (AllowsEach (λ v. AllowedWord (Means v) F) vs)) N before after e →
      EncodeFailure adds refuses (IsReady R (AllowedWord (IsListOf Means vs) (array n share F))) N before after e
  halts_array Means share F R N n vs before after e l =
      halts-same adds refuses _ _ N before after e (ready-as R _ _ (λ bytes. array-allows Means share F n vs bytes l)) (ready-as R _ _ (λ bytes. allowed-array Means share F n vs bytes l))
