-- Encoding into a slice, and decoding from one.
use Rattle.std.specs.Prelude.{◌≡◌, ◌≤◌, ◌<◌, ◌⊎◌, ◌↔◌, ◌++◌, ℕ, List, length, drop, Option, Result, IfOk, IsOk, IfErr}
use Rattle.bincode_base.specs.declared.error.EncodeError.{EncodeError}
use Rattle.bincode_base.specs.declared.error.DecodeError.{DecodeError}
use Rattle.bincode_base.specs.declared.error.DecodeError.TheVariants.{UnexpectedEnd}
use Rattle.bincode_spec.specs.Charge.{Step, StaysWithin}
use Rattle.bincode_spec.specs.Format.{Format}
use Rattle.bincode_spec.specs.Meaning.{Meaning}
use Rattle.bincode_spec.specs.Decoding.{MayReportMemory, AcceptsAll, ReportsFault, EnforcesLimit}
use Rattle.bincode_spec.specs.Encoding.{Begins, IsOwn}

-- these bytes replace the front of the slice, and those after them are unchanged
abbrev pub ReplacesFront : List ℕ → List ℕ → List ℕ → Type 0
ReplacesFront bytes old new = new ≡ bytes ++ drop (length bytes) old

-- an allowed word of n bytes replaces the front, and the bytes after it are unchanged
pub record WordWritten (Allowed : List ℕ → Type 0) (n : ℕ) (old new : List ℕ) : Type 0 where
  pub word : List ℕ
  pub is_allowed : Allowed word
  pub count : n ≡ length word
  pub fills : ReplacesFront word old new

-- some bytes replace the front, which begin an allowed word unless the error is one of a user's type
pub record FrontWritten (Allowed : List ℕ → Type 0) (old new : List ℕ) (e : EncodeError) : Type 0 where
  pub front : List ℕ
  pub fills : ReplacesFront front old new
  pub begins : IsOwn e ⊎ Begins Allowed front

-- An error that is not the type's own comes only if a prefix of an allowed word is longer than the slice. So if all
-- words of a value have one length (`OneLength`) and its type has no errors, it is written exactly if that length fits.
pub record FitsExactly (Allowed : List ℕ → Type 0) (OwnErrors : EncodeError → Type 0) (room : ℕ) (result : Result ℕ EncodeError) : Type 0 where
  pub short : IfErr result (λ e. OwnErrors e ⊎ ((front : List ℕ) × Begins Allowed front × (room < length front)))
  pub exact : ((x y : List ℕ) → Allowed x → Allowed y → length x ≡ length y) → ((e : EncodeError) → ¬ (OwnErrors e)) → (word : List ℕ) → Allowed word → IsOk result ↔ (length word ≤ room)

-- the error of a slice that ends too early
abbrev pub EndsSlice : ℕ → DecodeError → Type 0
EndsSlice missing e = e ≡ UnexpectedEnd missing

-- the first n bytes are a word whose steps stay within the limit, and the value is one that it decodes to
pub record IsDecoded (F : Format Meaning) (limit : Option ℕ) (input : List ℕ) (DecodesTo : Meaning → Type 0) (n : ℕ) : Type 0 where
  pub word : List ℕ
  pub remaining : List ℕ
  pub meaning : Meaning
  pub steps : List Step
  pub input_is : input ≡ word ++ remaining
  pub is_word : F.Word word meaning steps
  pub within : StaysWithin limit 0 steps
  pub count : n ≡ length word
  pub is_decoded : DecodesTo meaning

-- each word within the limit is accepted, or the error is `Memory` and decoding may allocate
abbrev pub FindsWords : {A : Type 0} → Format Meaning → Option ℕ → Type 0 → List ℕ → Result A DecodeError → Type 0
FindsWords F limit MayAllocate input result = AcceptsAll F limit (MayReportMemory MayAllocate) input result

-- each fault within the limit is reported, or the error is `Memory` and decoding may allocate
abbrev pub TellsFaults : {A : Type 0} → Format Meaning → Option ℕ → Type 0 → List ℕ → Result A DecodeError → Type 0
TellsFaults F limit MayAllocate input result = ReportsFault EndsSlice F limit (MayReportMemory MayAllocate) input result

-- charges that pass the limit give `LimitExceeded`, or the error is `Memory` and decoding may allocate
abbrev pub KeepsLimit : {A : Type 0} → Format Meaning → Option ℕ → Type 0 → List ℕ → Result A DecodeError → Type 0
KeepsLimit F limit MayAllocate input result = EnforcesLimit F limit (MayReportMemory MayAllocate) input result

-- all that a call that decodes from a slice promises
pub record IsAnswer {T : Type 0} (F : Format Meaning) (bound : Option ℕ) (MayAllocate : Type 0) (DecodesTo : Meaning → T → Type 0) (input : List ℕ) (result : Result (T × ℕ) DecodeError) : Type 0 where
  -- what is read is a word within the limit, of this length, and the value is one that it decodes to
  pub word : IfOk result (λ x. IsDecoded F bound input (λ m. DecodesTo m x.0) x.1)
  -- each word within the limit is read,
  pub found : AcceptsAll F bound (MayReportMemory MayAllocate) input result
  -- each fault within the limit is reported,
  pub fault : ReportsFault (λ missing e. e ≡ UnexpectedEnd missing) F bound (MayReportMemory MayAllocate) input result
  -- and charges that pass the limit are refused; in place of these three it may be `Memory`, if decoding may allocate
  pub limit : EnforcesLimit F bound (MayReportMemory MayAllocate) input result
