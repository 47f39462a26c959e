-- What the loop of a server makes of its input, its service and its output.
use Rattle.std.specs.Prelude.{◌≡◌, ◌⊎◌, ◌++◌, ℕ, List, [], ◌∷◌, length, drop, Bool, true, false, Option}
use Rattle.std.specs.Io.KnownBytes.{Appends}
use Rattle.bincode_base.specs.Setting.{Setting}
use Rattle.bincode_types.specs.TypeWords.{Words}
use Rattle.frames.specs.Frames.{Reads, frame}
use Rattle.frames.specs.declared.Frame.TheVariants as frames
use Rattle.framed_store.specs.Appended.{FitsStore, IsFitting}
use Rattle.framed_store.specs.Pieces.{Piece, FrameOf, Damage, ArePieces, bytes_of_all}
use Rattle.framed_store.specs.Told.{IsNext, IsRecord}
use Rattle.framed_store.specs.declared.records.Content.{Content}
use Rattle.framed_store.specs.declared.records.Content.TheVariants as contents
use Rattle.framed_store.specs.declared.records.Next.{Next}
use Rattle.framed_store.specs.declared.records.Next.TheVariants as nexts
use Rattle.calls.specs.Refusals.{fault_of}
use Rattle.calls.specs.declared.refusal.Refusal.{Refusal}
use Rattle.calls.specs.declared.refusal.Refusal.TheVariants as refusals
use Rattle.calls.specs.declared.serving.Failure.{Failure}
use Rattle.calls.specs.declared.serving.Failure.TheVariants as failures
use Rattle.calls.specs.declared.serving.ServeError.{ServeError}
use Rattle.calls.specs.declared.serving.Served.{Served}

-- What is replied to what a frame holds, in a state, and the state after it: to a request what the service replies, or
-- that this does not fit; to anything else why it is no request, and the state stays.
abbrev pub Replies : {S Q R : Type 0} → (S → Q → R → S → Type 0) → (Refusal → R) → (R → Type 0) → S → Content Q → R → S → Type 0
Replies {S} {Q} {R} replies refuse fits old (contents.Value request) reply new =
    replies old request reply new ⊎ ((reply ≡ refuse refusals.AnswerTooLong) × ((answer : R) × replies old request answer new × (fits answer → ⊥)))
Replies replies refuse fits old contents.Damaged reply new = (reply ≡ refuse refusals.Damaged) × (new ≡ old)
Replies replies refuse fits old (contents.Undecodable why) reply new = (reply ≡ refuse (refusals.Undecodable (fault_of why))) × (new ≡ old)
Replies replies refuse fits old (contents.Longer taken) reply new = (reply ≡ refuse (refusals.TrailingBytes taken)) × (new ≡ old)

-- the same where a length above `most` stands, which is no frame
abbrev pub RepliesTo : {S Q R : Type 0} → (S → Q → R → S → Type 0) → (Refusal → R) → (R → Type 0) → ℕ → S → Next Q → R → S → Type 0
RepliesTo replies refuse fits most old nexts.End reply new = ⊥
RepliesTo replies refuse fits most old nexts.Torn reply new = ⊥
RepliesTo replies refuse fits most old (nexts.TooLong n) reply new = (reply ≡ refuse (refusals.TooLong n most)) × (new ≡ old)
RepliesTo replies refuse fits most old (nexts.Record size content) reply new = Replies replies refuse fits old content reply new

-- nothing is left of the input, or a part of a frame
abbrev pub EndsInput : ℕ → List ℕ → Bool → Type 0
EndsInput most rest false = Reads most rest frames.End
EndsInput most rest true = Reads most rest frames.Torn

module _ {S Q R : Type 0} (answers : S → Q → R → S → Type 0) (refuse : Refusal → R) (W : Words Q) (V : Words R) (s : Setting) (limit : Option ℕ) (most : ℕ) where
  -- the first frames of the input get these replies, each in its frame, and lead from one state to another; after them is the rest
  abbrev pub Serves : List ℕ → S → List (Piece R) → S → List ℕ → Type 0
  Serves input old [] new rest = (new ≡ old) × (rest ≡ input)
  Serves input old (FrameOf reply word ∷ replies) new rest =
      (size : ℕ) × (content : Content Q) × (mid : S) × IsRecord (W.format s) limit W.decodes_to most input size content × Replies answers refuse (FitsStore V s limit most) old content reply mid ×
      Serves (drop size input) mid replies new rest
  Serves input old (Damage bytes ∷ replies) new rest = ⊥

  -- this is answered where this is left of the input
  abbrev pub Answered : List ℕ → S → R → S → Type 0
  Answered input old reply new = (next : Next Q) × IsNext (W.format s) limit W.decodes_to most input next × RepliesTo answers refuse (FitsStore V s limit most) most old next reply new

  -- all whole frames of the input got their replies, and nothing else was written
  pub record IsServed (input : List ℕ) (old new : S) (before after : Option (List ℕ)) (served : Served) : Type 0 where
    pub replies : List (Piece R)
    pub rest : List ℕ
    pub are_replies : ArePieces V s limit most replies
    pub serves : Serves input old replies new rest
    pub sent : Appends before after (bytes_of_all replies)
    pub count : served.answers ≡ length replies
    pub ends : EndsInput most rest served.is_torn

  -- what ended the loop, where this is left of the input, the state before it and after it, and what it wrote
  abbrev pub EndsBy : {E : Type 0} → (S → Q → E → S → Type 0) → List ℕ → S → S → List ℕ → Failure E → Type 0
  EndsBy fails input old new front (failures.Service why) = ((size : ℕ) × (request : Q) × IsRecord (W.format s) limit W.decodes_to most input size (contents.Value request) × fails old request why new) × (front ≡ [])
  EndsBy fails input old new front (failures.TooLong n) =
      Reads most input (frames.TooLong n) × (new ≡ old) × ((word : List ℕ) × IsFitting V s limit most (refuse (refusals.TooLong n most)) word × (front ≡ frame word))
  EndsBy fails input old new front (failures.Read _) = (new ≡ old) × (front ≡ [])
  EndsBy fails input old new front (failures.Memory _) = ((new ≡ old) ⊎ ((reply : R) × Answered input old reply new)) × (front ≡ [])
  EndsBy fails input old new front (failures.Write _) = (reply : R) × Answered input old reply new × ((word back : List ℕ) × IsFitting V s limit most reply word × (frame word ≡ front ++ back))
  EndsBy fails input old new front (failures.Unsent _) = (reply : R) × Answered input old reply new × (FitsStore V s limit most reply → ⊥) × (front ≡ [])

  -- the frames before a place got their replies, and there this ended the loop
  pub record IsStopped {E : Type 0} (fails : S → Q → E → S → Type 0) (input : List ℕ) (old new : S) (before after : Option (List ℕ)) (error : ServeError E) : Type 0 where
    pub replies : List (Piece R)
    pub rest : List ℕ
    pub state : S
    pub front : List ℕ
    pub are_replies : ArePieces V s limit most replies
    pub serves : Serves input old replies state rest
    pub sent : Appends before after (bytes_of_all replies ++ front)
    pub count : error.answers ≡ length replies
    pub why : EndsBy fails rest state new front error.why
