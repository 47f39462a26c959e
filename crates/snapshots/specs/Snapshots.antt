-- The bytes of a snapshot, and what is read of such bytes.
use Rattle.std.specs.Prelude.{◌≡◌, ◌≢◌, ◌<◌, ◌≤◌, ◌^◌, ◌++◌, ◌⊎◌, ℕ, List, length, take, drop, Option}
use Rattle.std.specs.Int.{w64, to_le_bytes}
use Rattle.sha2.specs.Sha256.{sha256}
use Rattle.bincode_base.specs.Setting.{Setting}
use Rattle.bincode_base.specs.declared.error.DecodeError.TheVariants as decoding
use Rattle.bincode_base.specs.declared.error.EncodeError.TheVariants as encoding
use Rattle.bincode_spec.specs.Allowed.{AllowedWord}
use Rattle.bincode_spec.specs.Format.{Format}
use Rattle.bincode_spec.specs.Limits.{FitsLimit}
use Rattle.bincode_spec.specs.Meaning.{Meaning}
use Rattle.bincode_spec.specs.Slice.{IsDecoded}
use Rattle.bincode_types.specs.TypeWords.{Words}
use Rattle.framed_store.specs.Appended.{IsEntry}
use Rattle.framed_store.specs.Told.{IsRefusedFor}
use Rattle.snapshots.specs.declared.snapshot.LoadError.{LoadError}
use Rattle.snapshots.specs.declared.snapshot.LoadError.TheVariants as failures
use Rattle.snapshots.specs.declared.snapshot.SaveError.{SaveError}
use Rattle.snapshots.specs.declared.snapshot.SaveError.TheVariants as saving

-- the number of commands in eight bytes, the lowest first, and the word of the state
abbrev pub counted_word : ℕ → List ℕ → List ℕ
counted_word commands word = to_le_bytes w64 commands ++ word

-- the SHA-256 digest of these, and they themselves
abbrev pub snapshot : ℕ → List ℕ → List ℕ
snapshot commands word = sha256 (counted_word commands word) ++ counted_word commands word

-- a snapshot of a state, by a word of it within the limit
pub record IsSnapshot {A : Type 0} (W : Words A) (s : Setting) (limit : Option ℕ) (commands : ℕ) (state : A) (bytes : List ℕ) : Type 0 where
  pub word : List ℕ
  pub is_entry : IsEntry W s limit state word
  pub bytes_are : bytes ≡ snapshot commands word

-- the bytes are a snapshot of this many commands, by a word of this state
pub record IsLoaded {A : Type 0} (F : Format Meaning) (limit : Option ℕ) (decodes_to : Meaning → A → Type 0) (bytes : List ℕ) (commands : ℕ) (state : A) : Type 0 where
  pub word : List ℕ
  pub bytes_are : bytes ≡ snapshot commands word
  pub is_word : IsDecoded F limit word (λ m. decodes_to m state) (length word)

-- there are a digest and a number, and the digest fits
abbrev pub DigestFits : List ℕ → Type 0
DigestFits bytes = (40 ≤ length bytes) × (take 32 bytes ≡ sha256 (drop 32 bytes))

-- the digest fits, and this is the number of commands and what follows it
abbrev pub HoldsState : List ℕ → ℕ → List ℕ → Type 0
HoldsState bytes commands word = DigestFits bytes × (commands < 2 ^ 64) × (bytes ≡ snapshot commands word) × (word ≡ drop 40 bytes)

-- why bytes have no header that fits
abbrev pub IsHeaderFault : List ℕ → LoadError → Type 0
IsHeaderFault bytes failures.Short = length bytes < 40
IsHeaderFault bytes failures.Damaged = (40 ≤ length bytes) × (take 32 bytes ≢ sha256 (drop 32 bytes))
IsHeaderFault bytes (failures.Undecodable _) = ⊥
IsHeaderFault bytes (failures.Longer _) = ⊥
IsHeaderFault bytes (failures.Memory _) = ⊥

-- why a word is not one of a state
abbrev pub IsStateFault : Format Meaning → Option ℕ → List ℕ → LoadError → Type 0
IsStateFault F limit word failures.Short = ⊥
IsStateFault F limit word failures.Damaged = ⊥
IsStateFault F limit word (failures.Undecodable why) = IsRefusedFor F limit word why
IsStateFault F limit word (failures.Longer taken) = IsDecoded F limit word (λ _. Unit {0}) taken × (taken < length word)
IsStateFault F limit word (failures.Memory _) = Unit {0}

-- why bytes are no snapshot; each case excludes the others
abbrev pub IsLoadFault : Format Meaning → Option ℕ → List ℕ → LoadError → Type 0
IsLoadFault F limit bytes e = IsHeaderFault bytes e ⊎ (DigestFits bytes × IsStateFault F limit (drop 40 bytes) e)

-- the error says that an allocation was refused: any such error
abbrev pub IsNoMemory : LoadError → Type 0
IsNoMemory (failures.Memory _) = Unit {0}
IsNoMemory failures.Short = ⊥
IsNoMemory failures.Damaged = ⊥
IsNoMemory (failures.Undecodable _) = ⊥
IsNoMemory (failures.Longer _) = ⊥

-- each word of the state stays within the limit
abbrev pub FitsLimits : {A : Type 0} → Words A → Setting → Option ℕ → A → Type 0
FitsLimits W s limit state = (word : List ℕ) → AllowedWord (W.means state) (W.format s) word → FitsLimit (W.format s) limit word

-- the error is one of memory: any such error
abbrev pub IsSaveMemory : SaveError → Type 0
IsSaveMemory (saving.Encode e) = e ≡ encoding.Memory
IsSaveMemory (saving.ReadBack e) = e ≡ decoding.Memory
IsSaveMemory (saving.Memory _) = Unit {0}
