-- What the calls promise that decode from a stream of `std::io`, and those that encode into one.
use Rattle.std.specs.Prelude.{◌≡◌, ◌⊎◌, ◌++◌, ℕ, List, Option, Result, length}
use Rattle.std.specs.Io.KnownBytes.{Appends}
use Rattle.bincode_base.specs.declared.error.DecodeError.{DecodeError}
use Rattle.bincode_base.specs.declared.error.EncodeError.{EncodeError}
use Rattle.bincode_base.specs.declared.error.EncodeError.TheVariants.{UnexpectedEnd}
use Rattle.bincode_spec.specs.Decoding.{IsExcused, IsRead}
use Rattle.bincode_spec.specs.Format.{Format}
use Rattle.bincode_spec.specs.Meaning.{Meaning}
use Rattle.bincode_io.specs.Stream.{TellsBytes, known_bytes, EndsShort, IsIo, IsWriteIo, stream_errors}

-- What was read of a stream (`old` before, `new` after), if its bytes are known: `IsRead` for a reader of those bytes,
-- whose end is `Io`. In place of each of its other answers it may be any `Io`, and `Memory` if decoding may allocate.
abbrev pub IsStreamRead : {R T : Type 0} → (R → Option (List ℕ)) → Type 0 → Format Meaning → Option ℕ → (Meaning → T → Type 0) → Result T DecodeError → R → R → Type 0
IsStreamRead remaining MayAllocate F bound DecodesTo result old new =
    IsRead (λ stream. TellsBytes (remaining stream)) (λ stream. known_bytes (remaining stream)) EndsShort (IsExcused stream_errors MayAllocate 0 0) IsIo F bound DecodesTo result old new

-- The index of the error counts the bytes of the writes that succeeded: the stream has them, and then a prefix of those
-- of the write that failed. Otherwise the error is the type's own, or 64 bits do not count the bytes.
pub record CountsWrites {W : Type 0} (contents : W → Option (List ℕ)) (OwnErrors : EncodeError → Type 0) (old new : W) (e : EncodeError) : Type 0 where
  pub whole : List ℕ
  pub cut : List ℕ
  pub appended : Appends (contents old) (contents new) (whole ++ cut)
  pub index : OwnErrors e ⊎ (IsWriteIo (length whole) e ⊎ (e ≡ UnexpectedEnd))
