-- `Encodes` of a list, from those of its length and its items.
use Rattle.std.specs.Prelude.{◌⊎◌, ℕ, List, ◌++◌, length, Result, Ok, Err}
use Rattle.std.specs.List.{All}
use Rattle.std.specs.Borrow.{GName}
use Rattle.std.proofs.Common.{subst, inl, inr}
use Rattle.std.proofs.Math.Seq.{take-append_seam, drop-append_seam}
use Rattle.std.proofs.lemmas.List.Elements.{All-append, All-take, All-drop}
use Rattle.bincode_base.specs.declared.error.EncodeError.{EncodeError}
use Rattle.bincode_base.specs.Setting.{Setting}
use Rattle.bincode_spec.specs.Format.{Format}
use Rattle.bincode_spec.specs.Meaning.{Meaning}
use Rattle.bincode_spec.specs.Words.{array, list}
use Rattle.bincode_spec.specs.Allowed.{AllowedWord}
use Rattle.bincode_spec.specs.Run.{IsListOf}
use Rattle.bincode_spec.specs.Layers.Meanings.{LengthWord}
use Rattle.bincode_spec.specs.Collections.{IsMadeOf, MakesBag}
use Rattle.bincode_lemmas.specs.RunAllowedLaws.{array-join, array-split}
use Rattle.bincode_lemmas.specs.ListLaws.{list-allows, allowed-list}
use Rattle.bincode_lemmas.specs.BagLaws.{bag-has_word, bag-list}
use Rattle.bincode_spec.specs.Encoding.{Adds, Refuses, Encodes}
use Rattle.bincode_encoder.proofs.EncodingAnswers.{Joined, encodes-within, first-halts, next-encodes}

-- the errors of a list are those of its items
after_length : (N : EncodeError → Type 0) (e : EncodeError) → ⊥ ⊎ N e → N e
after_length N e (inl k) = absurd k
after_length N e (inr k) = k

-- the errors of one of two runs are errors of both
of_both : (N : EncodeError → Type 0) (e : EncodeError) → N e ⊎ N e → N e
of_both N e (inl k) = k
of_both N e (inr k) = k

-- what holds of both runs holds of each
All_parts : {A : Type 0} (P : A → Type 0) (vs ws : List A) → All P (vs ++ ws) → All P vs × All P ws
All_parts P vs ws h = (subst (All P) (take-append_seam vs ws) (All-take P (length vs) (vs ++ ws) h), subst (All P) (drop-append_seam vs ws) (All-drop P (length vs) (vs ++ ws) h))

module _ {E W T V : Type 0} {adds : Adds W} {refuses : Refuses W} {writer_of : E → W} {loans : E → List GName} {old new : E}
    {A : Type 0} (Means : A → Meaning → Type 0) (s : Setting) (share : ℕ) (F : Format Meaning) {N : EncodeError → Type 0} where
  -- if encoding the length fails, so does the list
  pub length-halts : (vs : List A) {R : Type 0} {e : EncodeError} → Encodes {T = T} adds refuses writer_of loans (Unit {0}) (LengthWord s (length vs)) (λ _. ⊥) (Err e) old new →
      Encodes {T = V} adds refuses writer_of loans R (AllowedWord (IsListOf Means vs) (list s share F)) N (Err e) old new
  length-halts vs {R} = first-halts {R = Unit {0}} (λ _ r. r) (λ r. (tt, r)) (list-allows Means s share F vs) (allowed-list Means s share F vs) {M = N} (after_length N)

  -- after the length the list is encoded as its items
  pub list-encodes : (vs : List A) {R : Type 0} {t : T} {r : Result V EncodeError} {between : E} → Joined adds →
      Encodes adds refuses writer_of loans (Unit {0}) (LengthWord s (length vs)) (λ _. ⊥) (Ok t) old between →
      Encodes adds refuses writer_of loans R (AllowedWord (IsListOf Means vs) (array (length vs) share F)) N r between new →
      Encodes adds refuses writer_of loans R (AllowedWord (IsListOf Means vs) (list s share F)) N r old new
  list-encodes vs {R} = next-encodes {R = Unit {0}} (λ _ r. r) (λ r. (tt, r)) (list-allows Means s share F vs) (allowed-list Means s share F vs) {M = N} (after_length N)

module _ {E W T V : Type 0} {adds : Adds W} {refuses : Refuses W} {writer_of : E → W} {loans : E → List GName} {old new : E}
    {A : Type 0} (Means : A → Meaning → Type 0) (share : ℕ) (F : Format Meaning) {N : EncodeError → Type 0} where
  -- if encoding the first of two runs fails, so do both
  pub first_run-halts : (Writable : A → Type 0) (vs ws : List A) {e : EncodeError} →
      Encodes {T = T} adds refuses writer_of loans (All Writable vs) (AllowedWord (IsListOf Means vs) (array (length vs) share F)) N (Err e) old new →
      Encodes {T = V} adds refuses writer_of loans (All Writable (vs ++ ws)) (AllowedWord (IsListOf Means (vs ++ ws)) (array (length (vs ++ ws)) share F)) N (Err e) old new
  first_run-halts Writable vs ws = first-halts (All-append Writable vs ws) (All_parts Writable vs ws) (array-join Means share F vs ws) (array-split Means share F vs ws) (of_both N)

  -- after the first run both are encoded as the second
  pub runs-encode : (Writable : A → Type 0) (vs ws : List A) {t : T} {r : Result V EncodeError} {between : E} → Joined adds →
      Encodes adds refuses writer_of loans (All Writable vs) (AllowedWord (IsListOf Means vs) (array (length vs) share F)) N (Ok t) old between →
      Encodes adds refuses writer_of loans (All Writable ws) (AllowedWord (IsListOf Means ws) (array (length ws) share F)) N r between new →
      Encodes adds refuses writer_of loans (All Writable (vs ++ ws)) (AllowedWord (IsListOf Means (vs ++ ws)) (array (length (vs ++ ws)) share F)) N r old new
  runs-encode Writable vs ws = next-encodes (All-append Writable vs ws) (All_parts Writable vs ws) (array-join Means share F vs ws) (array-split Means share F vs ws) (of_both N)

module _ {E W T : Type 0} {adds : Adds W} {refuses : Refuses W} {writer_of : E → W} {loans : E → List GName} {old new : E}
    {A : Type 0} (Means : A → Meaning → Type 0) (s : Setting) (share : ℕ) (F : Format Meaning) {N : EncodeError → Type 0} where
  -- a bag is written as a list of its items
  pub bag-encodes : (vs : List A) {R : Type 0} {r : Result T EncodeError} → Encodes adds refuses writer_of loans R (AllowedWord (IsListOf Means vs) (list s share F)) N r old new →
      Encodes adds refuses writer_of loans R (AllowedWord (IsMadeOf MakesBag Means vs) (list s share F)) N r old new
  bag-encodes vs = encodes-within (bag-has_word Means s share F vs) (bag-list Means s share F vs)
