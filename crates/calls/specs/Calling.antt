-- What a caller sends and reads.
use Rattle.std.specs.Prelude.{◌≡◌, ◌⊎◌, ◌<◌, ◌++◌, ℕ, List, [], ◌∷◌, length, drop, Option, Some, Result, Ok, Err}
use Rattle.std.specs.Io.KnownBytes.{Appends}
use Rattle.std.specs.declared.io.Error.{Error}
use Rattle.bincode_base.specs.Setting.{Setting}
use Rattle.bincode_types.specs.TypeWords.{Words}
use Rattle.frames.specs.Frames.{Reads}
use Rattle.frames.specs.declared.Frame.TheVariants as frames
use Rattle.framed_store.specs.Appended.{Leaves}
use Rattle.framed_store.specs.Pieces.{Piece, FrameOf, Damage, ArePieces, bytes_of_all}
use Rattle.framed_store.specs.Told.{IsRecord}
use Rattle.framed_store.specs.declared.records.Content.{Content}
use Rattle.framed_store.specs.declared.records.Content.TheVariants as contents
use Rattle.calls.specs.Sending.{Sends}
use Rattle.calls.specs.declared.calling.Caller.{Caller}
use Rattle.calls.specs.declared.calling.CallError.{CallError}
use Rattle.calls.specs.declared.calling.SendError.{SendError}
use Rattle.calls.specs.declared.calling.CallError.TheVariants as errors

-- the stream that a caller reads from, and the one that it writes to
abbrev pub input_of : {R W C : Type 0} → Caller R W C → R
input_of caller = caller.input

abbrev pub output_of : {R W C : Type 0} → Caller R W C → W
output_of caller = caller.output

-- the longest word that it takes and sends, in bytes
abbrev pub most_of : {R W C : Type 0} → Caller R W C → ℕ
most_of caller = caller.most

-- what is told of what a frame holds
abbrev pub told_as : {A : Type 0} → Content A → Result (Option A) CallError
told_as (contents.Value value) = Ok (Some value)
told_as contents.Damaged = Err errors.Damaged
told_as (contents.Undecodable why) = Err (errors.Undecodable why)
told_as (contents.Longer taken) = Err (errors.TrailingBytes taken)

-- the frames are those of these values, in order
abbrev pub AreFramesOf : {A : Type 0} → List A → List (Piece A) → Type 0
AreFramesOf [] [] = Unit {0}
AreFramesOf (value ∷ values) (FrameOf framed _ ∷ pieces) = (framed ≡ value) × AreFramesOf values pieces
AreFramesOf (_ ∷ _) (Damage _ ∷ _) = ⊥
AreFramesOf [] (_ ∷ _) = ⊥
AreFramesOf (_ ∷ _) [] = ⊥

-- the error says that reading or an allocation failed: any such error
abbrev pub IsOutsideCall : CallError → Type 0
IsOutsideCall (errors.Send _) = ⊥
IsOutsideCall (errors.Flush _) = ⊥
IsOutsideCall errors.NoReply = ⊥
IsOutsideCall errors.Torn = ⊥
IsOutsideCall (errors.TooLong _) = ⊥
IsOutsideCall errors.Damaged = ⊥
IsOutsideCall (errors.Undecodable _) = ⊥
IsOutsideCall (errors.TrailingBytes _) = ⊥
IsOutsideCall (errors.Read _) = Unit {0}
IsOutsideCall (errors.Memory _) = Unit {0}

-- a request was not sent
abbrev pub IsSend : CallError → Type 0
IsSend e = (stopped : SendError) × (e ≡ errors.Send stopped)

-- the output failed when it was flushed
abbrev pub IsFlush : CallError → Type 0
IsFlush e = (why : Error) × (e ≡ errors.Flush why)

module _ {T : Type 0} (V : Words T) (s : Setting) (limit : Option ℕ) (most : ℕ) where
  -- the frames of values were written, in order
  abbrev pub SendsAll : List T → Option (List ℕ) → Option (List ℕ) → Type 0
  SendsAll values before after = (pieces : List (Piece T)) × ArePieces V s limit most pieces × AreFramesOf values pieces × Appends before after (bytes_of_all pieces)

  -- the input begins with the frame of this value, and what follows it is left
  abbrev pub IsReply : List ℕ → List ℕ → T → Type 0
  IsReply input left value = (size : ℕ) × IsRecord (V.format s) limit V.decodes_to most input size (contents.Value value) × (left ≡ drop size input)

  -- it begins with the frames of these, in order
  abbrev pub AreReplies : List ℕ → List ℕ → List T → Type 0
  AreReplies input left [] = left ≡ input
  AreReplies input left (value ∷ values) = (rest : List ℕ) × IsReply input rest value × AreReplies rest left values

  -- the input begins with the frame of none, for this reason
  abbrev pub IsNoReply : List ℕ → CallError → Type 0
  IsNoReply input (errors.Send _) = ⊥
  IsNoReply input (errors.Flush _) = ⊥
  IsNoReply input errors.NoReply = Reads most input frames.End
  IsNoReply input errors.Torn = Reads most input frames.Torn
  IsNoReply input (errors.TooLong n) = Reads most input (frames.TooLong n)
  IsNoReply input errors.Damaged = (size : ℕ) × IsRecord (V.format s) limit V.decodes_to most input size contents.Damaged
  IsNoReply input (errors.Undecodable why) = (size : ℕ) × IsRecord (V.format s) limit V.decodes_to most input size (contents.Undecodable why)
  IsNoReply input (errors.TrailingBytes taken) = (size : ℕ) × IsRecord (V.format s) limit V.decodes_to most input size (contents.Longer taken)
  IsNoReply input (errors.Read _) = Unit {0}
  IsNoReply input (errors.Memory _) = Unit {0}

  -- the frame of a value was not written: the stream is as it was, or has a prefix of it where it failed
  abbrev pub IsUnsent : {O : Type 0} → T → (O → Option (List ℕ)) → O → O → CallError → Type 0
  IsUnsent value bytes old new (errors.Send stopped) = (stopped.number ≡ 0) × Leaves V s limit most value bytes old new stopped.why
  IsUnsent value bytes old new (errors.Flush _) = ⊥
  IsUnsent value bytes old new errors.NoReply = ⊥
  IsUnsent value bytes old new errors.Torn = ⊥
  IsUnsent value bytes old new (errors.TooLong _) = ⊥
  IsUnsent value bytes old new errors.Damaged = ⊥
  IsUnsent value bytes old new (errors.Undecodable _) = ⊥
  IsUnsent value bytes old new (errors.TrailingBytes _) = ⊥
  IsUnsent value bytes old new (errors.Read _) = ⊥
  IsUnsent value bytes old new (errors.Memory _) = ⊥

  -- it was not, or it was
  abbrev pub MaybeSent : {O : Type 0} → T → (O → Option (List ℕ)) → O → O → CallError → Type 0
  MaybeSent value bytes old new e = IsUnsent value bytes old new e ⊎ Sends V s limit most value (bytes old) (bytes new)

  -- the frames of the values before a number were written, in order, and that of this number was not
  abbrev pub StopsAt : {O : Type 0} → List T → (O → Option (List ℕ)) → O → O → SendError → Type 0
  StopsAt {O} values bytes old new e =
      (sent : List T) × (value : T) × (others : List T) × (mid : O) × (values ≡ sent ++ value ∷ others) × (length sent ≡ e.number) × SendsAll sent (bytes old) (bytes mid) × Leaves V s limit most value bytes mid new e.why

  -- the same, as the error of a caller
  abbrev pub StopsSending : {O : Type 0} → List T → (O → Option (List ℕ)) → O → O → CallError → Type 0
  StopsSending values bytes old new (errors.Send stopped) = StopsAt values bytes old new stopped
  StopsSending values bytes old new (errors.Flush _) = ⊥
  StopsSending values bytes old new errors.NoReply = ⊥
  StopsSending values bytes old new errors.Torn = ⊥
  StopsSending values bytes old new (errors.TooLong _) = ⊥
  StopsSending values bytes old new errors.Damaged = ⊥
  StopsSending values bytes old new (errors.Undecodable _) = ⊥
  StopsSending values bytes old new (errors.TrailingBytes _) = ⊥
  StopsSending values bytes old new (errors.Read _) = ⊥
  StopsSending values bytes old new (errors.Memory _) = ⊥

  -- the input begins with the frames of some replies, fewer than n, and none follows them, for this reason
  abbrev pub StopsReceiving : ℕ → List ℕ → CallError → Type 0
  StopsReceiving n input e = (received : List T) × (rest : List ℕ) × (length received < n) × AreReplies input rest received × IsNoReply rest e

  -- they were not all sent, or they were
  abbrev pub MaybeAllSent : {O : Type 0} → List T → (O → Option (List ℕ)) → O → O → CallError → Type 0
  MaybeAllSent values bytes old new e = StopsSending values bytes old new e ⊎ SendsAll values (bytes old) (bytes new)

  -- the request was not sent, or the input begins with no reply to it
  abbrev pub MaybeNoReply : List ℕ → CallError → Type 0
  MaybeNoReply input e = IsSend e ⊎ (IsFlush e ⊎ IsNoReply input e)
