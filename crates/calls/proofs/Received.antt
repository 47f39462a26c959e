-- What is told of a frame that was read.
use Rattle.std.specs.Prelude.{◌≡◌, ◌^◌, ◌<◌, ◌++◌, ℕ, List, [], ◌∷◌, drop, Bool, true, Option, IfErr, IfOk, IfSome, IsSomeAnd, MatchResult, refl}
use Rattle.std.proofs.Common.{◌∙◌, ap, subst}
use Rattle.std.proofs.Math.Seq.{drop-append_seam}
use Rattle.bincode_base.specs.Setting.{Setting}
use Rattle.bincode_types.specs.TypeLaws.{ExactWords}
use Rattle.bincode_types.specs.TypeWords.{Words}
use Rattle.frames.specs.Frames.{Reads, frame}
use Rattle.frames.specs.declared.Frame.TheVariants as frames
use Rattle.framed_store.proofs.Listings.{AreBytes, ends-no-piece, told-piece}
use Rattle.framed_store.specs.Appended.{IsFitting}
use Rattle.framed_store.specs.Pieces.{FrameOf, IsToldAs}
use Rattle.framed_store.specs.Told.{IsRecord}
use Rattle.framed_store.specs.declared.ending.Ending.TheVariants as endings
use Rattle.framed_store.specs.declared.records.Content.{Content}
use Rattle.framed_store.specs.declared.records.Content.TheVariants as contents
use Rattle.calls.specs.Calling.{AreReplies, IsNoReply, IsOutsideCall, IsReply, told_as}
use Rattle.calls.specs.declared.calling.CallError.{CallError}
use Rattle.calls.specs.declared.calling.CallError.TheVariants as errors

-- an error that tells of something else than the end of the input
abbrev IsOther : CallError → Type 0
IsOther errors.NoReply = ⊥
IsOther _ = Unit {0}

module _ {T : Type 0} (V : Words T) (s : Setting) (limit : Option ℕ) (most : ℕ) where
  pub told-reply : (input left : List ℕ) (size : ℕ) (content : Content T) → IsRecord (V.format s) limit V.decodes_to most input size content → left ≡ drop size input → IfOk (told_as content) (λ found. IfSome found (IsReply V s limit most input left))
  told-reply input left size (contents.Value value) r e = (size, r, e)
  told-reply input left size contents.Damaged r e = tt
  told-reply input left size (contents.Undecodable why) r e = tt
  told-reply input left size (contents.Longer taken) r e = tt

  pub told-none : (input : List ℕ) (size : ℕ) (content : Content T) → IsRecord (V.format s) limit V.decodes_to most input size content → IfErr (told_as content) (λ why. IsNoReply V s limit most input why × (why ≡ errors.NoReply → ⊥))
  told-none input size (contents.Value value) r = tt
  told-none input size contents.Damaged r = ((size, r), λ e. subst IsOther e tt)
  told-none input size (contents.Undecodable why) r = ((size, r), λ e. subst IsOther e tt)
  told-none input size (contents.Longer taken) r = ((size, r), λ e. subst IsOther e tt)

  -- one more reply
  pub replies-more : (input mid left : List ℕ) (values : List T) (value : T) → AreReplies V s limit most input mid values → IsReply V s limit most mid left value →
      AreReplies V s limit most input left (values ++ value ∷ [])
  replies-more input mid left [] value h one = (left, subst (λ z. IsReply V s limit most z left value) h one, refl)
  replies-more input mid left (v ∷ values) value h one = (h.0, h.1, replies-more h.0 mid left values value h.2 one)

  module _ (small : most < 2 ^ 32) (eq : T → T → Bool) (exact : ExactWords V eq) where
    by_content : (content : Content T) (sent : T) (left rest : List ℕ) → IsToldAs eq (FrameOf sent []) content → left ≡ rest →
        MatchResult (told_as content) (λ found. IsSomeAnd found (λ reply. (eq sent reply ≡ true) × (left ≡ rest))) IsOutsideCall
    by_content (contents.Value value) sent left rest told e = (told, e)
    by_content contents.Damaged sent left rest told e = absurd told
    by_content (contents.Undecodable why) sent left rest told e = absurd told
    by_content (contents.Longer taken) sent left rest told e = absurd told

    -- the frame of a value is told as an equal one
    pub told-equal : (input left : List ℕ) (size : ℕ) (content : Content T) → IsRecord (V.format s) limit V.decodes_to most input size content → left ≡ drop size input → AreBytes input →
        (sent : T) (word rest : List ℕ) → IsFitting V s limit most sent word → input ≡ frame word ++ rest →
        MatchResult (told_as content) (λ found. IsSomeAnd found (λ reply. (eq sent reply ≡ true) × (left ≡ rest))) IsOutsideCall
    told-equal input left size content r e all sent word rest fit i =
        let told = told-piece V s limit most small eq exact (FrameOf sent word) rest fit (subst AreBytes i all) size content (subst (λ z. IsRecord (V.format s) limit V.decodes_to most z size content) i r) in
        by_content content sent left rest told.0 (e ∙ (ap (drop size) i ∙ (ap (λ k. drop k (frame word ++ rest)) told.1 ∙ drop-append_seam (frame word) rest)))

    -- no input ends where it stands
    pub no-torn : (input : List ℕ) → Reads most input frames.Torn → AreBytes input → (sent : T) (word rest : List ℕ) → IsFitting V s limit most sent word → input ≡ frame word ++ rest → ⊥
    no-torn input reads all sent word rest fit i =
        ends-no-piece V s limit most small eq exact (FrameOf sent word) rest fit (subst AreBytes i all) 0 (endings.Torn 0) (refl, subst (λ z. Reads most z frames.Torn) i reads)
