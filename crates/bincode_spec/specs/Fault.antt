-- The faults of an input, and the errors that tell them.
use Rattle.std.specs.Prelude.{◌≡◌, ℕ, List, Option, Some, None, Box, string_bytes}
use Rattle.std.specs.declared.string.String.{String}
use Rattle.std.specs.declared.vec.Vec.{Vec}
use Rattle.std.specs.declared.alloc.Global.{Global}
use Rattle.std.specs.declared.str.Utf8Error.{Utf8Error}
use Rattle.bincode_base.specs.declared.short_text.Text.{Text}
use Rattle.bincode_base.specs.declared.error.IntegerType.{IntegerType}
use Rattle.bincode_base.specs.declared.error.DecodeError.{DecodeError}
use Rattle.bincode_base.specs.declared.error.DecodeError.TheVariants as errors
use Rattle.bincode_base.specs.ShortText.{text_bytes}

-- the valid tags of a choice
pub data Allowed : Type 0 where
  Between : ℕ → ℕ → Allowed
  OneOf : List ℕ → Allowed

pub data Fault : Type 0 where
  -- the input ends too early; by how many bytes, if that is promised
  End : Option ℕ → Fault
  InvalidInteger : IntegerType → IntegerType → Fault
  Zero : IntegerType → Fault
  UnexpectedVariant : Allowed → ℕ → Fault
  Utf8 : Fault
  InvalidChar : List ℕ → Fault
  InvalidBool : ℕ → Fault
  InvalidDuration : ℕ → ℕ → Fault
  NulAt : ℕ → Fault
  -- a fault of a user's type, with its text
  Other : List ℕ → Fault
  LengthMismatch : ℕ → ℕ → Fault
  EmptyEnum : Fault
  OutsideUsize : ℕ → Fault

abbrev pub IsEnd : Fault → Type 0
IsEnd (End missing) = Unit {0}
IsEnd _ = ⊥

-- the error of a type of this name for an unknown tag, with the valid ones
abbrev pub TellsTag : Text 10 → Allowed → ℕ → DecodeError → Type 0
TellsTag name (Between min max) found e = e ≡ errors.UnexpectedVariant name found min max
TellsTag name (OneOf tags) found e = (listed : Box (Vec ℕ Global) Global) × (e ≡ errors.UnlistedVariant name found listed) × (listed.value.items ≡ tags)

-- the error of a user's type with this text
pub data IsOther (text : List ℕ) (e : DecodeError) : Type 0 where
  short : (t : Text 22) → e ≡ errors.Other t → text_bytes t ≡ text → IsOther text e
  long : (t : Box (String Global) Global) → e ≡ errors.OtherString t → string_bytes t.value ≡ text → IsOther text e

-- The error that tells a fault. `end_error` has the reader's error for a number of missing bytes.
abbrev pub Tells : (ℕ → DecodeError → Type 0) → Fault → DecodeError → Type 0
Tells ended (End (Some missing)) e = ended missing e
Tells ended (End None) e = (missing : ℕ) × ended missing e
Tells ended (InvalidInteger expected found) e = e ≡ errors.InvalidIntegerType expected found
Tells ended (Zero name) e = e ≡ errors.NonZeroTypeIsZero name
Tells ended (UnexpectedVariant allowed found) e = (name : Text 10) × TellsTag name allowed found e
Tells ended Utf8 e = (inner : Utf8Error) × (e ≡ errors.Utf8 inner)
Tells ended (InvalidChar bytes) e = e ≡ errors.InvalidCharEncoding bytes
Tells ended (InvalidBool byte) e = e ≡ errors.InvalidBooleanValue byte
Tells ended (InvalidDuration seconds nanos) e = e ≡ errors.InvalidDuration seconds nanos
Tells ended (NulAt place) e = e ≡ errors.CStringNulError place
Tells ended (Other text) e = IsOther text e
Tells ended (LengthMismatch required found) e = e ≡ errors.ArrayLengthMismatch required found
Tells ended EmptyEnum e = (name : Text 22) × (e ≡ errors.EmptyEnum name)
Tells ended (OutsideUsize n) e = e ≡ errors.OutsideUsizeRange n
