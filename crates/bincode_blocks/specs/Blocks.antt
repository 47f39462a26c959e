-- What a writer that gathers bytes in a block does to the stream behind it.
use Rattle.std.specs.Prelude.{◌≡◌, ◌⊎◌, ◌+◌, ◌-◌, ◌^◌, ◌<◌, ◌≤◌, ◌++◌, ◌∷◌, ℕ, List, [], length, take, min, Option, None, IsSome}
use Rattle.std.specs.Borrow.{GName}
use Rattle.std.specs.Io.KnownBytes.{Appends}
use Rattle.bincode_base.specs.declared.error.EncodeError.{EncodeError}
use Rattle.bincode_base.specs.declared.error.StreamError.{StreamError}
use Rattle.bincode_base.specs.declared.error.EncodeError.TheVariants.{UnexpectedEnd}
use Rattle.bincode_blocks.specs.declared.block_writer.BlockWriter.{BlockWriter}

-- the stream that it writes to
abbrev pub stream_behind : {W : Type 0} → BlockWriter W → W
stream_behind w = w.stream.now

-- the bytes that it holds
abbrev pub held_by : {W : Type 0} → BlockWriter W → List ℕ
held_by w = take w.held w.block

-- the number of bytes that were written to it
abbrev pub count_of : {W : Type 0} → BlockWriter W → ℕ
count_of w = w.written + w.held

-- the number of bytes that were handed on to the stream
abbrev pub handed_on : {W : Type 0} → BlockWriter W → ℕ
handed_on w = w.written

-- how the stream failed, if it did
abbrev pub failure_of : {W : Type 0} → BlockWriter W → Option StreamError
failure_of w = w.failure

-- the references that it writes through
abbrev pub loans_of : {W : Type 0} → BlockWriter W → List GName
loans_of w = w.stream.ghost_name ∷ []

-- a piece was written: the stream has a front of what was held and the piece, and the rest is held; the empty piece
-- changes nothing, and no other is written after the stream failed
pub record BlockAdds {W : Type 0} (contents : W → Option (List ℕ)) (a : BlockWriter W) (piece : List ℕ) (b : BlockWriter W) : Type 0 where
  pub out : List ℕ
  pub appended : Appends (contents (stream_behind a)) (contents (stream_behind b)) out
  pub joined : held_by a ++ piece ≡ out ++ held_by b
  pub count_rises : count_of b ≡ count_of a + length piece
  pub within : length piece ≤ 2 ^ 64 - 1 - count_of a
  pub handed : handed_on b ≡ handed_on a + length out
  pub same_failure : failure_of b ≡ failure_of a
  pub healthy : (piece ≡ []) ⊎ (failure_of a ≡ None)
  pub nothing : piece ≡ [] → b ≡ a

-- the stream has a front of what was held and the piece, of which what was handed on is a front, and nothing is held:
-- the rest is lost
pub record FrontOnly {W : Type 0} (contents : W → Option (List ℕ)) (a : BlockWriter W) (piece : List ℕ) (b : BlockWriter W) : Type 0 where
  pub out : List ℕ
  pub lost : List ℕ
  pub appended : Appends (contents (stream_behind a)) (contents (stream_behind b)) out
  pub joined : held_by a ++ piece ≡ out ++ lost
  pub empty : held_by b ≡ []
  pub rises : handed_on a ≤ handed_on b
  pub handed : handed_on b ≤ handed_on a + length out

-- a piece was refused, as the stream failed or the count would pass 64 bits
abbrev pub BlockRefuses : {W : Type 0} → (W → Option (List ℕ)) → BlockWriter W → List ℕ → EncodeError → BlockWriter W → Type 0
BlockRefuses contents a piece e b = (e ≡ UnexpectedEnd) × FrontOnly contents a piece b × (IsSome (failure_of b) ⊎ (2 ^ 64 - 1 - count_of a < length piece))

-- a front of what was held was handed on, or nothing
pub record HandsOn {W : Type 0} (contents : W → Option (List ℕ)) (a b : BlockWriter W) : Type 0 where
  pub out : List ℕ
  pub appended : Appends (contents (stream_behind a)) (contents (stream_behind b)) out
  pub joined : held_by a ≡ out ++ held_by b
  pub same_count : count_of b ≡ count_of a
  pub handed : handed_on b ≡ handed_on a + length out
  pub same_failure : failure_of b ≡ failure_of a

-- it is empty, and as much may be held as the block and the count of bytes allow
abbrev pub IsCleared : {W : Type 0} → BlockWriter W → Type 0
IsCleared b = (b.held ≡ 0) × (b.room ≡ min (length b.block) (2 ^ 64 - 1 - b.written))

-- the stream failed after a front of what was held, and nothing can be held from then on
pub record Stops {W : Type 0} (contents : W → Option (List ℕ)) (a b : BlockWriter W) : Type 0 where
  pub front : FrontOnly contents a [] b
  pub failed : IsSome (failure_of b)
  pub shut : b.room ≡ 0
  pub same_handed : handed_on b ≡ handed_on a

-- what was held was handed on, or the stream failed
abbrev pub Clears : {W : Type 0} → (W → Option (List ℕ)) → BlockWriter W → BlockWriter W → Type 0
Clears contents a b = (HandsOn contents a b × (failure_of b ≡ None) × IsCleared b) ⊎ Stops contents a b

-- there is room for n bytes, or the block was handed on and is empty, or the stream failed
abbrev pub HasRoom : {W : Type 0} → (W → Option (List ℕ)) → ℕ → BlockWriter W → BlockWriter W → Type 0
HasRoom contents n a b = (HandsOn contents a b × ((n ≤ b.room - b.held) ⊎ IsCleared b)) ⊎ Stops contents a b
