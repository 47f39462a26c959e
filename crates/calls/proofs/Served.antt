-- One more frame that was answered.
use Rattle.std.specs.Prelude.{◌≡◌, ◌+◌, ◌++◌, ℕ, List, [], ◌∷◌, length, drop, Bool, true, false, Option, refl}
use Rattle.std.specs.Io.KnownBytes.{Appends}
use Rattle.std.proofs.Common.{ap, sym, subst, arith, length-append}
use Rattle.std.proofs.KnownBytes.{Appends-nil, Appends-trans}
use Rattle.bincode_base.specs.Setting.{Setting}
use Rattle.bincode_types.specs.TypeWords.{Words}
use Rattle.frames.specs.Frames.{frame}
use Rattle.framed_store.specs.Appended.{FitsStore}
use Rattle.framed_store.specs.PieceLaws.{bytes-more, are-more}
use Rattle.framed_store.specs.Pieces.{Piece, FrameOf, Damage, ArePieces, bytes_of_all}
use Rattle.framed_store.specs.Told.{IsRecord}
use Rattle.framed_store.specs.declared.records.Content.{Content}
use Rattle.calls.specs.Serving.{Replies, Serves, EndsInput, IsServed, IsStopped}
use Rattle.calls.specs.ServingSteps.{TakesFrame, StopsFrame}
use Rattle.calls.specs.declared.refusal.Refusal.{Refusal}
use Rattle.calls.specs.declared.serving.Failure.{Failure}
use Rattle.calls.specs.declared.serving.Step.TheVariants as steps

module _ {S Q R : Type 0} (answers : S → Q → R → S → Type 0) (refuse : Refusal → R) (W : Words Q) (V : Words R) (s : Setting) (limit : Option ℕ) (most : ℕ) where
  abbrev Fits : R → Type 0
  Fits = FitsStore V s limit most

  serves-more : (input : List ℕ) (old : S) (replies : List (Piece R)) (mid : S) (rest : List ℕ) → Serves answers refuse W V s limit most input old replies mid rest →
      (size : ℕ) (content : Content Q) (reply : R) (word : List ℕ) (new : S) → IsRecord (W.format s) limit W.decodes_to most rest size content → Replies answers refuse Fits mid content reply new →
      Serves answers refuse W V s limit most input old (replies ++ FrameOf reply word ∷ []) new (drop size rest)
  serves-more input old [] mid rest h size content reply word new r a = (
    size,
    content,
    new,
    subst (λ z. IsRecord (W.format s) limit W.decodes_to most z size content) h.1 r,
    subst (λ z. Replies answers refuse Fits z content reply new) h.0 a,
    (refl, ap (drop size) h.1),
  )
  serves-more input old (FrameOf first w ∷ replies) mid rest h size content reply word new r a =
      (h.0, h.1, h.2, h.3, h.4, serves-more (drop h.0 input) h.2 replies mid rest h.5 size content reply word new r a)
  serves-more input old (Damage bytes ∷ replies) mid rest h size content reply word new r a = absurd h

  -- the first frames of the input got their replies, n of them, and the output has these
  pub record ServedSoFar (input : List ℕ) (old : S) (n : ℕ) (state : S) (rest : List ℕ) (before now : Option (List ℕ)) : Type 0 where
    pub replies : List (Piece R)
    pub are_replies : ArePieces V s limit most replies
    pub serves : Serves answers refuse W V s limit most input old replies state rest
    pub sent : Appends before now (bytes_of_all replies)
    pub count : n ≡ length replies

  -- nothing was read yet
  pub served-none : (input : List ℕ) (old : S) (before : Option (List ℕ)) → ServedSoFar input old 0 old input before before
  served-none input old before = record { replies = []; are_replies = tt; serves = (refl, refl); sent = Appends-nil before; count = refl }

  pub served-more : (input : List ℕ) (old : S) (n : ℕ) (mid : S) (rest : List ℕ) (before now : Option (List ℕ)) → ServedSoFar input old n mid rest before now →
      (at next : ℕ) (new : S) (left : List ℕ) (after : Option (List ℕ)) → TakesFrame answers refuse W V s limit most at rest mid new left now after (steps.Answered next) → ServedSoFar input old (n + 1) new left before after
  served-more input old n mid rest before now so_far at next new left after step =
      let reply = step.3.0 in
      let sends = step.3.2 in
      let word = sends.0 in
      let replies = so_far.replies ++ FrameOf reply word ∷ [] in
      let one = length-append so_far.replies (FrameOf reply word ∷ []) in
      let count = so_far.count in record {
        replies = replies;
        are_replies = are-more V s limit most so_far.replies (FrameOf reply word) so_far.are_replies sends.1;
        serves = subst (λ z. Serves answers refuse W V s limit most input old replies new z) (sym step.5) (serves-more input old so_far.replies mid rest so_far.serves step.0 step.1 reply word new step.2 step.3.1);
        sent = subst (Appends before after) (sym (bytes-more V s limit most so_far.replies (FrameOf reply word))) (Appends-trans before now after (bytes_of_all so_far.replies) (frame word) so_far.sent sends.2);
        count = omega (arith, one, count);
      }

  -- the input ends
  served-ends : (input : List ℕ) (old : S) (n : ℕ) (new : S) (rest : List ℕ) (before after : Option (List ℕ)) → ServedSoFar input old n new rest before after → (is_torn : Bool) → EndsInput most rest is_torn →
      IsServed answers refuse W V s limit most input old new before after (record { answers = n; is_torn = is_torn })
  served-ends input old n new rest before after so_far is_torn ends = record {
    replies = so_far.replies;
    rest = rest;
    are_replies = so_far.are_replies;
    serves = so_far.serves;
    sent = so_far.sent;
    count = so_far.count;
    ends = ends;
  }

  -- or a frame ends the loop
  pub served-stops : {E : Type 0} (fails : S → Q → E → S → Type 0) (input : List ℕ) (old : S) (n : ℕ) (mid : S) (rest : List ℕ) (before now : Option (List ℕ)) → ServedSoFar input old n mid rest before now →
      (new : S) (after : Option (List ℕ)) (why : Failure E) → StopsFrame answers refuse W V s limit most fails rest mid new now after why →
      IsStopped answers refuse W V s limit most fails input old new before after (record { answers = n; why = why })
  served-stops fails input old n mid rest before now so_far new after why stop = record {
    replies = so_far.replies;
    rest = rest;
    state = mid;
    front = stop.0;
    are_replies = so_far.are_replies;
    serves = so_far.serves;
    sent = Appends-trans before now after (bytes_of_all so_far.replies) stop.0 so_far.sent stop.1;
    count = so_far.count;
    why = stop.2;
  }

  -- the last step changes nothing
  still : (input : List ℕ) (old : S) (n : ℕ) (mid : S) (rest : List ℕ) (before now : Option (List ℕ)) → ServedSoFar input old n mid rest before now → (new : S) (after : Option (List ℕ)) → new ≡ mid → after ≡ now →
      ServedSoFar input old n new rest before after
  still input old n mid rest before now so_far new after same kept =
      subst (λ z. ServedSoFar input old n z rest before after) (sym same) (subst (λ z. ServedSoFar input old n mid rest before z) (sym kept) so_far)

  pub served-whole : (input : List ℕ) (old : S) (n : ℕ) (mid : S) (rest : List ℕ) (before now : Option (List ℕ)) → ServedSoFar input old n mid rest before now →
      (at : ℕ) (new : S) (left : List ℕ) (after : Option (List ℕ)) → TakesFrame answers refuse W V s limit most at rest mid new left now after steps.End →
      IsServed answers refuse W V s limit most input old new before after (record { answers = n; is_torn = false })
  served-whole input old n mid rest before now so_far at new left after step =
      served-ends input old n new rest before after (still input old n mid rest before now so_far new after step.1 step.2) false step.0

  pub served-torn : (input : List ℕ) (old : S) (n : ℕ) (mid : S) (rest : List ℕ) (before now : Option (List ℕ)) → ServedSoFar input old n mid rest before now →
      (at : ℕ) (new : S) (left : List ℕ) (after : Option (List ℕ)) → TakesFrame answers refuse W V s limit most at rest mid new left now after steps.Torn →
      IsServed answers refuse W V s limit most input old new before after (record { answers = n; is_torn = true })
  served-torn input old n mid rest before now so_far at new left after step =
      served-ends input old n new rest before after (still input old n mid rest before now so_far new after step.1 step.2) true step.0
