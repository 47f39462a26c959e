-- Encoding the items that an iterator gives, one by one.
use Rattle.std.specs.Prelude.{◌≡◌, ℕ, List, [], ◌∷◌, ◌++◌, length, refl}
use Rattle.std.specs.List.{All}
use Rattle.std.proofs.Common.{sym, ◌∙◌, ap, subst, append_assoc, append-nil}
use Rattle.std.proofs.lemmas.List.Elements.{All-push}
use Rattle.bincode_base.specs.declared.error.EncodeError.{EncodeError}
use Rattle.bincode_spec.specs.Format.{Format}
use Rattle.bincode_spec.specs.Meaning.{Meaning}
use Rattle.bincode_spec.specs.Words.{array}
use Rattle.bincode_spec.specs.Allowed.{AllowedWord}
use Rattle.bincode_spec.specs.Run.{IsListOf}
use Rattle.bincode_lemmas.specs.Sequences.{AllowsEach}
use Rattle.bincode_spec.specs.Encoding.{Adds, Refuses, Writes, IsReady, EncodeFailure}
use Rattle.bincode_lemmas.specs.RunAllowedLaws.{array-allows}
use Rattle.bincode_lemmas.specs.EncodingLaws.{writes-same}
use Rattle.bincode_encoder.proofs.EncodingAnswers.{Joined}
use Rattle.bincode_encoder.proofs.RunAnswers.{writes-push, halts-between, halts_array}

-- these items are left, and `Done` holds of those before them
abbrev pub SoFar : {A : Type 0} → (List A → Type 0) → List A → List A → Type 0
SoFar {A} Done vs left = (xs : List A) × (xs ++ left ≡ vs) × Done xs

-- at first none
pub so_far-none : {A : Type 0} (Done : List A → Type 0) {vs left : List A} → left ≡ vs → Done [] → SoFar Done vs left
so_far-none Done e d = ([], e, d)

-- an item that is left is one of the items
so_far_step : {A : Type 0} {vs left rest : List A} (v : A) (xs : List A) → xs ++ left ≡ vs → left ≡ v ∷ rest → (xs ++ v ∷ []) ++ rest ≡ vs
so_far_step {rest = rest} v xs e f = append_assoc xs (v ∷ []) rest ∙ ap (λ z. xs ++ z) (sym f) ∙ e

-- at last all
pub so_far-all : {A : Type 0} (Done : List A → Type 0) {vs left : List A} → SoFar Done vs left → left ≡ [] → Done vs
so_far-all Done (xs, e, d) f = subst Done (sym (append-nil xs) ∙ ap (λ z. xs ++ z) (sym f) ∙ e) d

-- one more item is valid
pub valid-more : {A : Type 0} (Valid : A → Type 0) {vs left rest : List A} {v : A} → SoFar (All Valid) vs left → left ≡ v ∷ rest → Valid v → SoFar (All Valid) vs rest
valid-more Valid {v = v} (xs, e, d) f h = (xs ++ v ∷ [], so_far_step v xs e f, All-push Valid xs v d h)

module _ {W : Type 0} (adds : Adds W) {A : Type 0} (Means : A → Meaning → Type 0) (F : Format Meaning) where
  -- the words of the items were added
  abbrev pub WrittenSoFar : List A → List A → W → W → Type 0
  WrittenSoFar vs left before after = SoFar (λ xs. Writes adds (AllowsEach (λ v. AllowedWord (Means v) F) xs) before after) vs left

  pub written-none : ((w : W) → adds w [] w) → {vs left : List A} {w : W} → left ≡ vs → WrittenSoFar vs left w w
  written-none none e = ([], e, record { word = []; is_allowed = refl; added = none _ })

  -- one more item is written
  pub written-more : Joined adds → {vs left rest : List A} {v : A} {before between after : W} → WrittenSoFar vs left before between → left ≡ v ∷ rest →
      Writes adds (AllowedWord (Means v) F) between after → WrittenSoFar vs rest before after
  written-more join {v = v} (xs, e, d) f w = (xs ++ v ∷ [], so_far_step v xs e f, writes-push adds join (λ v. AllowedWord (Means v) F) _ _ _ xs v d w)

  -- all of them are the array
  pub written-all : (share : ℕ) {vs left : List A} {before after : W} → WrittenSoFar vs left before after → left ≡ [] →
      Writes adds (AllowedWord (IsListOf Means vs) (array (length vs) share F)) before after
  written-all share {vs = vs} w f =
      writes-same adds _ _ _ _ (λ bytes. array-allows Means share F (length vs) vs bytes refl)
      (so_far-all (λ xs. Writes adds (AllowsEach (λ v. AllowedWord (Means v) F) xs) _ _) w f)

  -- if encoding an item fails, so does the array
  pub written-halts : (refuses : Refuses W) → Joined adds → (share : ℕ) (Writable : A → Type 0) (N : EncodeError → Type 0) {vs left rest : List A} {v : A}
      {before between after : W} {e : EncodeError} →
      WrittenSoFar vs left before between → left ≡ v ∷ rest → EncodeFailure adds refuses (IsReady (Writable v) (AllowedWord (Means v) F)) N between after e →
      EncodeFailure adds refuses (IsReady (All Writable vs) (AllowedWord (IsListOf Means vs) (array (length vs) share F))) N before after e
  written-halts refuses join share Writable N {vs = vs} {rest = rest} {v = v} {before = before} {between = between} {after = after} {e = why} (xs, e, d) f h =
      let p : xs ++ v ∷ rest ≡ vs = ap (λ z. xs ++ z) (sym f) ∙ e in
      subst (λ z. EncodeFailure adds refuses (IsReady (All Writable z) (AllowedWord (IsListOf Means z) (array (length z) share F))) N before after why) p
      (halts_array adds refuses Means share F _ N _ (xs ++ v ∷ rest) before after why refl
      (halts-between adds refuses join Writable (λ v. AllowedWord (Means v) F) N before between after xs rest v why d h))
