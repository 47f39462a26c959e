-- What ends the loop of a server at a frame.
use Rattle.std.specs.Prelude.{◌≡◌, ◌+◌, ℕ, List, [], drop, Option, Some, None, refl}
use Rattle.std.specs.Io.KnownBytes.{Appends, Keeps}
use Rattle.std.proofs.Common.{◌∙◌, sym, subst, inl, inr, append-nil}
use Rattle.std.proofs.KnownBytes.{Appends-nil}
use Rattle.bincode_base.specs.Setting.{Setting}
use Rattle.bincode_types.specs.TypeWords.{Words}
use Rattle.frames.specs.Frames.{Reads, frame}
use Rattle.frames.specs.declared.Frame.TheVariants as frames
use Rattle.framed_store.specs.Appended.{FitsStore}
use Rattle.framed_store.specs.Told.{IsRecord}
use Rattle.framed_store.specs.declared.records.Content.{Content}
use Rattle.framed_store.specs.declared.records.Content.TheVariants as contents
use Rattle.framed_store.specs.declared.records.Next.TheVariants as nexts
use Rattle.calls.specs.Sending.{Sends}
use Rattle.calls.specs.Serving.{Replies}
use Rattle.calls.specs.ServingSteps.{SendsPart, AnswersContent, FailsAt, StopsFrame, TakesFrame, IsWrite}
use Rattle.calls.specs.declared.refusal.Refusal.{Refusal}
use Rattle.calls.specs.declared.refusal.Refusal.TheVariants as refusals
use Rattle.calls.specs.declared.serving.Failure.{Failure}
use Rattle.calls.specs.declared.serving.Failure.TheVariants as failures
use Rattle.calls.specs.declared.serving.Step.TheVariants as steps

-- what did not change grew by nothing
grown-none : (before after : Option (List ℕ)) → after ≡ before → Appends before after []
grown-none before after same = subst (λ z. Appends before z []) (sym same) (Appends-nil before)

-- a flush changes nothing
pub grown-kept : (before now after : Option (List ℕ)) (bytes : List ℕ) → Appends before now bytes → Keeps now after → Appends before after bytes
grown-kept None now after bytes p k = tt
grown-kept (Some x) None after bytes p k = absurd p
grown-kept (Some x) (Some y) None bytes p k = absurd k
grown-kept (Some x) (Some y) (Some z) bytes p k = k ∙ p

module _ {S Q R : Type 0} (answers : S → Q → R → S → Type 0) (refuse : Refusal → R) (W : Words Q) (V : Words R) (s : Setting) (limit : Option ℕ) (most : ℕ) {E : Type 0} (fails : S → Q → E → S → Type 0) where
  abbrev Stops : List ℕ → S → S → Option (List ℕ) → Option (List ℕ) → Failure E → Type 0
  Stops = StopsFrame answers refuse W V s limit most fails

  abbrev Fits : R → Type 0
  Fits = FitsStore V s limit most

  -- the refusal of a length was not sent
  pub too-long-unsent : (input : List ℕ) (old : S) (before after : Option (List ℕ)) (n : ℕ) → Reads most input (frames.TooLong n) → (why : Failure E) →
      SendsPart V s limit most (refuse (refusals.TooLong n most)) before after why → Stops input old old before after why
  too-long-unsent input old before after n reads (failures.Service _) h = absurd h
  too-long-unsent input old before after n reads (failures.TooLong _) h = absurd h
  too-long-unsent input old before after n reads (failures.Read _) h = absurd h
  too-long-unsent input old before after n reads (failures.Memory _) h = ([], grown-none before after h, (inl refl, refl))
  too-long-unsent input old before after n reads (failures.Write _) h =
      (h.1, h.5, (refuse (refusals.TooLong n most), (nexts.TooLong n, reads, (refl, refl)), (h.0, h.2, h.3, h.4)))
  too-long-unsent input old before after n reads (failures.Unsent _) h =
      ([], grown-none before after h.0, (refuse (refusals.TooLong n most), (nexts.TooLong n, reads, (refl, refl)), h.1, refl))

  -- it was sent, and the output failed as it was flushed, or did not
  pub too-long-unflushed : (input : List ℕ) (old : S) (before now after : Option (List ℕ)) (n : ℕ) → Reads most input (frames.TooLong n) →
      Sends V s limit most (refuse (refusals.TooLong n most)) before now → Keeps now after → (why : Failure E) → IsWrite why → Stops input old old before after why
  too-long-unflushed input old before now after n reads sends k (failures.Service _) h = absurd h
  too-long-unflushed input old before now after n reads sends k (failures.TooLong _) h = absurd h
  too-long-unflushed input old before now after n reads sends k (failures.Read _) h = absurd h
  too-long-unflushed input old before now after n reads sends k (failures.Memory _) h = absurd h
  too-long-unflushed input old before now after n reads sends k (failures.Write _) h =
      (frame sends.0, grown-kept before now after (frame sends.0) sends.2 k, (refuse (refusals.TooLong n most), (nexts.TooLong n, reads, (refl, refl)), (sends.0, [], sends.1, sym (append-nil (frame sends.0)))))
  too-long-unflushed input old before now after n reads sends k (failures.Unsent _) h = absurd h

  pub too-long-flushed : (input : List ℕ) (old : S) (before now after : Option (List ℕ)) (n : ℕ) → Reads most input (frames.TooLong n) →
      Sends V s limit most (refuse (refusals.TooLong n most)) before now → Keeps now after → Stops input old old before after (failures.TooLong n)
  too-long-flushed input old before now after n reads sends k = (frame sends.0, grown-kept before now after (frame sends.0) sends.2 k, (reads, refl, (sends.0, sends.1, refl)))

  -- what a frame holds got no reply, or a part of it
  pub frame-stops : (input : List ℕ) (old new : S) (before after : Option (List ℕ)) (size : ℕ) (content : Content Q) → IsRecord (W.format s) limit W.decodes_to most input size content → (why : Failure E) →
      FailsAt answers refuse V s limit most fails old content new before after why → Stops input old new before after why
  frame-stops input old new before after size content r (failures.Service why) h =
      ([], grown-none before after h.1, ((size, h.0.0, subst (IsRecord (W.format s) limit W.decodes_to most input size) h.0.1 r, h.0.2), refl))
  frame-stops input old new before after size content r (failures.TooLong _) h = absurd h
  frame-stops input old new before after size content r (failures.Read _) h = absurd h
  frame-stops input old new before after size content r (failures.Memory _) h =
      ([], grown-none before after h.2, (inr (h.0, (nexts.Record size content, r, h.1)), refl))
  frame-stops input old new before after size content r (failures.Write _) h =
      (h.2.1, h.2.5, (h.0, (nexts.Record size content, r, h.1), (h.2.0, h.2.2, h.2.3, h.2.4)))
  frame-stops input old new before after size content r (failures.Unsent _) h =
      ([], grown-none before after h.2, (h.0, (nexts.Record size content, r, h.1), h.3, refl))

  -- a reply was sent, and the output failed as it was flushed
  pub flush-stops : (input : List ℕ) (old new : S) (before now after : Option (List ℕ)) (size : ℕ) (content : Content Q) → IsRecord (W.format s) limit W.decodes_to most input size content →
      AnswersContent answers refuse V s limit most old content new before now → Keeps now after → (why : Failure E) → IsWrite why → Stops input old new before after why
  flush-stops input old new before now after size content r a k (failures.Service _) h = absurd h
  flush-stops input old new before now after size content r a k (failures.TooLong _) h = absurd h
  flush-stops input old new before now after size content r a k (failures.Read _) h = absurd h
  flush-stops input old new before now after size content r a k (failures.Memory _) h = absurd h
  flush-stops input old new before now after size content r a k (failures.Write _) h =
      let word = a.2.0 in
      (frame word, grown-kept before now after (frame word) a.2.2 k, (a.0, (nexts.Record size content, r, a.1), (word, [], a.2.1, sym (append-nil (frame word)))))
  flush-stops input old new before now after size content r a k (failures.Unsent _) h = absurd h

module _ {S Q R : Type 0} (answers : S → Q → R → S → Type 0) (refuse : Refusal → R) (V : Words R) (s : Setting) (limit : Option ℕ) (most : ℕ) {E : Type 0} (fails : S → Q → E → S → Type 0) where
  -- a reply that was not sent, as what a frame holds gets none
  pub unsent-fails : (old : S) (content : Content Q) (reply : R) (new : S) (before after : Option (List ℕ)) → Replies answers refuse (FitsStore V s limit most) old content reply new → (why : Failure E) →
      SendsPart V s limit most reply before after why → FailsAt answers refuse V s limit most fails old content new before after why
  unsent-fails old content reply new before after a (failures.Service _) h = absurd h
  unsent-fails old content reply new before after a (failures.TooLong _) h = absurd h
  unsent-fails old content reply new before after a (failures.Read _) h = absurd h
  unsent-fails old content reply new before after a (failures.Memory _) h = (reply, a, h)
  unsent-fails old content reply new before after a (failures.Write _) h = (reply, a, h)
  unsent-fails old content reply new before after a (failures.Unsent _) h = (reply, a, h.0, h.1)

  -- a reply that does not fit, and in its place that it is too long
  pub unfit-answered : (old : S) (request : Q) (answer : R) (new : S) (before now after : Option (List ℕ)) → answers old request answer new → now ≡ before → (FitsStore V s limit most answer → ⊥) →
      Sends V s limit most (refuse refusals.AnswerTooLong) now after → AnswersContent answers refuse V s limit most old (contents.Value request) new before after
  unfit-answered old request answer new before now after a same unfit sends =
      (refuse refusals.AnswerTooLong, inr (refl, (answer, a, unfit)), (sends.0, sends.1, subst (λ z. Appends z after (frame sends.0)) same sends.2))

  pub unfit-fails : (old : S) (request : Q) (answer : R) (new : S) (before now after : Option (List ℕ)) → answers old request answer new → now ≡ before → (FitsStore V s limit most answer → ⊥) → (why : Failure E) →
      SendsPart V s limit most (refuse refusals.AnswerTooLong) now after why → FailsAt answers refuse V s limit most fails old (contents.Value request) new before after why
  unfit-fails old request answer new before now after a same unfit why part =
      unsent-fails old (contents.Value request) (refuse refusals.AnswerTooLong) new before after (inr (refl, (answer, a, unfit))) why (subst (λ z. SendsPart V s limit most (refuse refusals.AnswerTooLong) z after why) same part)

keeps-itself : (known : Option (List ℕ)) → Keeps known known
keeps-itself None = tt
keeps-itself (Some bytes) = refl

module _ {S Q R : Type 0} (answers : S → Q → R → S → Type 0) (refuse : Refusal → R) (W : Words Q) (V : Words R) (s : Setting) (limit : Option ℕ) (most : ℕ) where
  -- a frame was answered, and its reply handed on
  pub takes-flushed : (at : ℕ) (input : List ℕ) (old new : S) (left : List ℕ) (before now after : Option (List ℕ)) (size : ℕ) (content : Content Q) (next : ℕ) →
      IsRecord (W.format s) limit W.decodes_to most input size content → AnswersContent answers refuse V s limit most old content new before now → Keeps now after → next ≡ at + size → left ≡ drop size input →
      TakesFrame answers refuse W V s limit most at input old new left before after (steps.Answered next)
  takes-flushed at input old new left before now after size content next r a k n l =
      (size, content, r, (a.0, a.1, (a.2.0, a.2.1, grown-kept before now after (frame a.2.0) a.2.2 k)), n, l)

  -- or it stays in a buffer
  pub takes-unflushed : (at : ℕ) (input : List ℕ) (old new : S) (left : List ℕ) (before after : Option (List ℕ)) (size : ℕ) (content : Content Q) (next : ℕ) →
      IsRecord (W.format s) limit W.decodes_to most input size content → AnswersContent answers refuse V s limit most old content new before after → next ≡ at + size → left ≡ drop size input →
      TakesFrame answers refuse W V s limit most at input old new left before after (steps.Answered next)
  takes-unflushed at input old new left before after size content next r a n l = takes-flushed at input old new left before after after size content next r a (keeps-itself after) n l
