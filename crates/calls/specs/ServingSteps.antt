-- One step of the loop of a server.
use Rattle.std.specs.Prelude.{◌≡◌, ◌⊎◌, ◌+◌, ◌<◌, ◌≤◌, ◌++◌, ℕ, List, length, drop, Option}
use Rattle.std.specs.Io.KnownBytes.{Appends}
use Rattle.bincode_base.specs.Setting.{Setting}
use Rattle.bincode_base.specs.declared.error.DecodeError.TheVariants as decoding
use Rattle.bincode_base.specs.declared.error.EncodeError.TheVariants as encoding
use Rattle.bincode_types.specs.TypeWords.{Words}
use Rattle.frames.specs.Frames.{Reads, frame, named_length}
use Rattle.frames.specs.declared.Frame.TheVariants as frames
use Rattle.framed_store.specs.Appended.{FitsStore, IsFitting}
use Rattle.framed_store.specs.Told.{IsRecord}
use Rattle.framed_store.specs.declared.appending.AppendError.{AppendError}
use Rattle.framed_store.specs.declared.appending.AppendError.TheVariants as appending
use Rattle.framed_store.specs.declared.records.Content.{Content}
use Rattle.framed_store.specs.declared.records.Content.TheVariants as contents
use Rattle.calls.specs.Sending.{Sends}
use Rattle.calls.specs.Serving.{Replies, EndsBy}
use Rattle.calls.specs.declared.refusal.Refusal.{Refusal}
use Rattle.calls.specs.declared.serving.Failure.{Failure}
use Rattle.calls.specs.declared.serving.Failure.TheVariants as failures
use Rattle.calls.specs.declared.serving.Sending.{Sending}
use Rattle.calls.specs.declared.serving.Sending.TheVariants as sendings
use Rattle.calls.specs.declared.serving.Step.{Step}
use Rattle.calls.specs.declared.serving.Step.TheVariants as steps

-- bytes begin with a whole frame, or with a length above `most`
abbrev pub HoldsFrame : ℕ → List ℕ → Type 0
HoldsFrame most bytes = (4 ≤ length bytes) × ((most < named_length bytes) ⊎ (8 + named_length bytes ≤ length bytes))

-- the error says that an allocation was refused: any such error
abbrev pub IsMemory : AppendError → Type 0
IsMemory (appending.Encode e) = e ≡ encoding.Memory
IsMemory (appending.ReadBack e) = e ≡ decoding.Memory
IsMemory (appending.TooLong _ _) = ⊥
IsMemory (appending.Memory _) = Unit {0}
IsMemory (appending.Write e) = ⊥

-- the output failed
abbrev pub IsWrite : {E : Type 0} → Failure E → Type 0
IsWrite (failures.Service _) = ⊥
IsWrite (failures.TooLong _) = ⊥
IsWrite (failures.Read _) = ⊥
IsWrite (failures.Memory _) = ⊥
IsWrite (failures.Write _) = Unit {0}
IsWrite (failures.Unsent _) = ⊥

-- a frame has at least the bytes of a length and a check
abbrev pub IsLonger : ℕ → Step → Type 0
IsLonger at steps.End = Unit {0}
IsLonger at steps.Torn = Unit {0}
IsLonger at (steps.Answered next) = at + 8 ≤ next

module _ {T : Type 0} (V : Words T) (s : Setting) (limit : Option ℕ) (most : ℕ) where
  -- the reply was written, or nothing, since it does not fit
  abbrev pub SendsIfFit : T → Option (List ℕ) → Option (List ℕ) → Sending → Type 0
  SendsIfFit reply before after sendings.Sent = Sends V s limit most reply before after
  SendsIfFit reply before after (sendings.Unfit _) = (after ≡ before) × (FitsStore V s limit most reply → ⊥)

  -- a prefix of the reply's frame was written where the output failed
  abbrev pub SendsPart : {E : Type 0} → T → Option (List ℕ) → Option (List ℕ) → Failure E → Type 0
  SendsPart reply before after (failures.Service _) = ⊥
  SendsPart reply before after (failures.TooLong _) = ⊥
  SendsPart reply before after (failures.Read _) = ⊥
  SendsPart reply before after (failures.Memory _) = after ≡ before
  SendsPart reply before after (failures.Write _) = (word front back : List ℕ) × IsFitting V s limit most reply word × (frame word ≡ front ++ back) × Appends before after front
  SendsPart reply before after (failures.Unsent _) = (after ≡ before) × (FitsStore V s limit most reply → ⊥)

module _ {S Q R : Type 0} (answers : S → Q → R → S → Type 0) (refuse : Refusal → R) (V : Words R) (s : Setting) (limit : Option ℕ) (most : ℕ) where
  -- what a frame holds got its reply
  abbrev pub AnswersContent : S → Content Q → S → Option (List ℕ) → Option (List ℕ) → Type 0
  AnswersContent old content new before after = (reply : R) × Replies answers refuse (FitsStore V s limit most) old content reply new × Sends V s limit most reply before after

  -- or it got none, or a part of it
  abbrev pub FailsAt : {E : Type 0} → (S → Q → E → S → Type 0) → S → Content Q → S → Option (List ℕ) → Option (List ℕ) → Failure E → Type 0
  FailsAt fails old content new before after (failures.Service why) = ((request : Q) × (content ≡ contents.Value request) × fails old request why new) × (after ≡ before)
  FailsAt fails old content new before after (failures.TooLong _) = ⊥
  FailsAt fails old content new before after (failures.Read _) = ⊥
  FailsAt fails old content new before after (failures.Memory _) =
      (reply : R) × Replies answers refuse (FitsStore V s limit most) old content reply new × (after ≡ before)
  FailsAt fails old content new before after (failures.Write e) =
      (reply : R) × Replies answers refuse (FitsStore V s limit most) old content reply new × ((word front back : List ℕ) × IsFitting V s limit most reply word × (frame word ≡ front ++ back) × Appends before after front)
  FailsAt fails old content new before after (failures.Unsent _) =
      (reply : R) × Replies answers refuse (FitsStore V s limit most) old content reply new × (after ≡ before) × (FitsStore V s limit most reply → ⊥)

module _ {S Q R : Type 0} (answers : S → Q → R → S → Type 0) (refuse : Refusal → R) (W : Words Q) (V : Words R) (s : Setting) (limit : Option ℕ) (most : ℕ) where
  -- the frame that the input begins with got its reply, and what follows the frame is left
  abbrev pub TakesFrame : ℕ → List ℕ → S → S → List ℕ → Option (List ℕ) → Option (List ℕ) → Step → Type 0
  TakesFrame at input old new left before after steps.End = Reads most input frames.End × (new ≡ old) × (after ≡ before)
  TakesFrame at input old new left before after steps.Torn = Reads most input frames.Torn × (new ≡ old) × (after ≡ before)
  TakesFrame at input old new left before after (steps.Answered next) =
      (size : ℕ) × (content : Content Q) × IsRecord (W.format s) limit W.decodes_to most input size content × AnswersContent answers refuse V s limit most old content new before after × (next ≡ at + size) × (left ≡ drop size input)

  -- it ended the loop
  abbrev pub StopsFrame : {E : Type 0} → (S → Q → E → S → Type 0) → List ℕ → S → S → Option (List ℕ) → Option (List ℕ) → Failure E → Type 0
  StopsFrame fails input old new before after why = (front : List ℕ) × Appends before after front × EndsBy answers refuse W V s limit most fails input old new front why
