-- What is known of the bytes of a stream of `std::io`, and the errors of its readers and writers.
use Rattle.std.specs.Prelude.{◌≡◌, ◌⊎◌, ◌+◌, ◌-◌, ◌^◌, ◌<◌, ◌≤◌, ◌++◌, ℕ, List, [], length, Option, Some, None, Result, ⊤}
use Rattle.std.specs.Borrow.{GName}
use Rattle.std.specs.Io.Buffered.{reader_buffer}
use Rattle.std.specs.Io.KnownBytes.{Appends}
use Rattle.std.specs.declared.io.buffered.BufReader.{BufReader}
use Rattle.std.specs.IoError.{error_kind, raw_os_error}
use Rattle.std.specs.declared.io.Error.{Error}
use Rattle.std.specs.declared.io.ErrorKind.TheVariants.{UnexpectedEof}
use Rattle.bincode_base.specs.StreamError.{kind_of, code_of}
use Rattle.bincode_base.specs.declared.error.StreamError.{StreamError}
use Rattle.bincode_base.specs.declared.error.DecodeError.{DecodeError}
use Rattle.bincode_base.specs.declared.error.DecodeError.TheVariants as decoding
use Rattle.bincode_base.specs.declared.error.EncodeError.{EncodeError}
use Rattle.bincode_base.specs.declared.error.EncodeError.TheVariants as encoding
use Rattle.bincode_spec.specs.Device.{DeviceErrors}
use Rattle.bincode_spec.specs.Layers.Pieces.{FillsBuffer}
use Rattle.bincode_spec.specs.Encoding.{Begins, IsOwn}
use Rattle.bincode_io.specs.declared.io_read.IoReader.{IoReader}
use Rattle.bincode_io.specs.declared.io_read.LentIoReader.{LentIoReader}
use Rattle.bincode_io.specs.declared.io_write.IoWriter.{IoWriter}

-- the remaining bytes are known
abbrev pub TellsBytes : Option (List ℕ) → Type 0
TellsBytes None = ⊥
TellsBytes (Some xs) = ⊤

-- the remaining bytes, if they are known
abbrev pub known_bytes : Option (List ℕ) → List ℕ
known_bytes None = []
known_bytes (Some xs) = xs

-- the stream that it reads
abbrev pub stream_of : {R : Type 0} → IoReader R → R
stream_of r = r.stream

-- the stream that is lent to it
abbrev pub lent_stream : {R : Type 0} → LentIoReader R → R
lent_stream r = r.stream.now

-- an error of the stream, or its end
abbrev pub IsIo : DecodeError → Type 0
IsIo e = (inner : StreamError) × (additional : ℕ) × (e ≡ decoding.Io inner additional)

-- `told` has the kind of an error of the stream, and its number if there is one
abbrev pub CopiesError : Error → StreamError → Type 0
CopiesError cause told = (kind_of told ≡ error_kind cause) × (code_of told ≡ raw_os_error cause)

-- the stream ended with n bytes missing: the end of a file
abbrev pub EndsAsFile : ℕ → DecodeError → Type 0
EndsAsFile missing e = (inner : StreamError) × (e ≡ decoding.Io inner missing) × (kind_of inner ≡ UnexpectedEof)

-- stream errors may come at any call and are not counted
abbrev pub stream_errors : DeviceErrors
stream_errors = record { is_counted = λ _. ⊥; is_uncounted = IsIo }

-- the stream ended with n bytes missing
abbrev pub EndsShort : ℕ → DecodeError → Type 0
EndsShort missing e = (inner : StreamError) × (e ≡ decoding.Io inner missing)

-- a reader, which knows its remaining bytes if the stream does, was asked to fill some bytes
abbrev pub FillsFrom : {R : Type 0} → (R → Option (List ℕ)) → (R → List GName) → List ℕ → List ℕ → Result (Unit {0}) DecodeError → R → R → Type 0
FillsFrom left place before after result old new =
    FillsBuffer (λ r. TellsBytes (left r)) (λ r. known_bytes (left r)) (λ _. 0) place EndsShort stream_errors before after result old new

-- the number of bytes in the buffer of a reader
abbrev pub buffered_count : {R A : Type 0} → BufReader R A → ℕ
buffered_count r = length (reader_buffer r)

-- the stream that it writes to
abbrev pub target_of : {W : Type 0} → IoWriter W → W
target_of w = w.stream.now

-- the number of bytes that it wrote
abbrev pub written_through : {W : Type 0} → IoWriter W → ℕ
written_through w = w.written

-- an error of the stream after n bytes were written
abbrev pub IsWriteIo : ℕ → EncodeError → Type 0
IsWriteIo written e = (inner : StreamError) × (e ≡ encoding.Io inner written)

-- a piece was written: the contents of the stream, if they are known, grew by it, and so did the count; the empty piece
-- changes nothing
pub record StreamAdds {W : Type 0} (contents : W → Option (List ℕ)) (a : IoWriter W) (piece : List ℕ) (b : IoWriter W) : Type 0 where
  pub appended : Appends (contents (target_of a)) (contents (target_of b)) piece
  pub count_rises : written_through b ≡ written_through a + length piece
  pub within : length piece ≤ 2 ^ 64 - 1 - written_through a
  pub nothing : piece ≡ [] → b ≡ a

-- a prefix of a piece was written
pub record FrontOut {W : Type 0} (contents : W → Option (List ℕ)) (a : W) (piece : List ℕ) (b : W) : Type 0 where
  pub front : List ℕ
  pub back : List ℕ
  pub piece_is : piece ≡ front ++ back
  pub appended : Appends (contents a) (contents b) front

-- a piece was refused: the count would pass 64 bits, and nothing was written; or the stream failed after a prefix of it
abbrev pub StreamRefuses : {W : Type 0} → (W → Option (List ℕ)) → IoWriter W → List ℕ → EncodeError → IoWriter W → Type 0
StreamRefuses contents a piece e b = ((e ≡ encoding.UnexpectedEnd) × (2 ^ 64 - 1 - written_through a < length piece) × (b ≡ a))
    ⊎ (IsWriteIo (written_through a) e × (written_through b ≡ written_through a) × FrontOut contents (target_of a) piece (target_of b))

-- an allowed word of n bytes was written to a stream
pub record StreamWritten {W : Type 0} (contents : W → Option (List ℕ)) (Allowed : List ℕ → Type 0) (n : ℕ) (old new : W) : Type 0 where
  pub word : List ℕ
  pub is_allowed : Allowed word
  pub count : n ≡ length word
  pub appended : Appends (contents old) (contents new) word

-- a prefix of an allowed word was written to it, unless the error is one of a user's type; the error is the type's, or
-- the stream failed, or a prefix of an allowed word has more bytes than 64 bits count
pub record StreamHalts {W : Type 0} (contents : W → Option (List ℕ)) (Allowed : List ℕ → Type 0) (OwnErrors : EncodeError → Type 0) (old new : W) (e : EncodeError) : Type 0 where
  pub front : List ℕ
  pub appended : Appends (contents old) (contents new) front
  pub begins : IsOwn e ⊎ Begins Allowed front
  pub why : OwnErrors e ⊎ (((written : ℕ) × IsWriteIo written e) ⊎ ((e ≡ encoding.UnexpectedEnd) × ((long : List ℕ) × Begins Allowed long × (2 ^ 64 - 1 < length long))))
