-- What encoding returns and leaves.
use Rattle.std.specs.Prelude.{◌≡◌, ◌⊎◌, ℕ, List, [], ◌++◌, Option, Result, OnOk, IfErr}
use Rattle.std.specs.Borrow.{GName}
use Rattle.bincode_base.specs.declared.error.EncodeError.{EncodeError}
use Rattle.bincode_base.specs.declared.error.EncodeError.TheVariants as errors
use Rattle.bincode_spec.specs.Allowed.{OneLength}
use Rattle.bincode_spec.specs.Device.{TooLong, WithinRoom}

-- what a write that succeeds does to a writer
abbrev pub Adds : Type 0 → Type 1
Adds W = W → List ℕ → W → Type 0

-- what a write that fails returns, and does to the writer
abbrev pub Refuses : Type 0 → Type 1
Refuses W = W → List ℕ → EncodeError → W → Type 0

-- an allowed word was added
pub record Writes {W : Type 0} (adds : Adds W) (Allowed : List ℕ → Type 0) (before after : W) : Type 0 where
  pub word : List ℕ
  pub is_allowed : Allowed word
  pub added : adds before word after

-- an allowed word of a value that can be written: the inner type of each cell in it has a word
pub record IsReady (Writable : Type 0) (Allowed : List ℕ → Type 0) (bytes : List ℕ) : Type 0 where
  pub is_writable : Writable
  pub is_allowed : Allowed bytes

-- these bytes begin an allowed word, if there is one
abbrev pub Begins : (List ℕ → Type 0) → List ℕ → Type 0
Begins Allowed bytes = (some : List ℕ) → Allowed some → (more : List ℕ) × Allowed (bytes ++ more)

-- an error of a user's type, which may come anywhere in a word
abbrev pub IsOwn : EncodeError → Type 0
IsOwn (errors.LockFailed _) = Unit {0}
IsOwn (errors.Other _) = Unit {0}
IsOwn (errors.OtherString _) = Unit {0}
IsOwn _ = ⊥

-- Some bytes were added. Then the writer refused a piece, and they with the piece begin an allowed word; or the error
-- is the type's own, and they begin an allowed word unless it is one of a user's type.
pub data EncodeFailure {W : Type 0} (adds : Adds W) (refuses : Refuses W) (Allowed : List ℕ → Type 0) (OwnErrors : EncodeError → Type 0) (before after : W) (e : EncodeError) : Type 0 where
  by_writer : (front piece : List ℕ) (middle : W) → adds before front middle → refuses middle piece e after → Begins Allowed (front ++ piece) → EncodeFailure adds refuses Allowed OwnErrors before after e
  by_name : (front : List ℕ) → adds before front after → OwnErrors e → IsOwn e ⊎ Begins Allowed front → EncodeFailure adds refuses Allowed OwnErrors before after e

-- An encoder (`old` before, `new` after) wrote a value: an allowed word was added, or the error tells why not. The
-- references are unchanged.
pub record Encodes {E W T : Type 0} (adds : Adds W) (refuses : Refuses W) (writer_of : E → W) (loans : E → List GName) (Writable : Type 0)
    (Allowed : List ℕ → Type 0) (OwnErrors : EncodeError → Type 0) (result : Result T EncodeError) (old new : E) : Type 0 where
  pub ok : OnOk result (Writes adds Allowed (writer_of old) (writer_of new))
  pub err : IfErr result (EncodeFailure adds refuses (IsReady Writable Allowed) OwnErrors (writer_of old) (writer_of new))
  pub same_loans : loans new ≡ loans old

-- An error that is neither the type's own nor one of memory or device comes only if a prefix of an allowed word is
-- longer than the room. So if all words of a value have one length and its type has no errors, what is written fits the
-- room, and if it fits, the error is one of memory or device.
pub record FitsRoom (Allowed : List ℕ → Type 0) (OwnErrors Fails : EncodeError → Type 0) (room : Option ℕ) (result : Result (Unit {0}) EncodeError) : Type 0 where
  pub short : IfErr result (λ e. OwnErrors e ⊎ (Fails e ⊎ ((front : List ℕ) × Begins Allowed front × TooLong room front)))
  pub exact : OneLength Allowed → ((e : EncodeError) → ¬ (OwnErrors e)) → (word : List ℕ) → Allowed word →
      OnOk result (WithinRoom room word) × (WithinRoom room word → IfErr result Fails)

-- if every allowed word is empty, only the type's own errors come
abbrev pub FailsEmpty : {A : Type 0} → (List ℕ → Type 0) → (EncodeError → Type 0) → Result A EncodeError → Type 0
FailsEmpty Allowed OwnErrors result = OneLength Allowed → Allowed [] → IfErr result OwnErrors
