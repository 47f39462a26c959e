-- What is told of a store of frames: of each frame what it holds, and how the store ends.
use Rattle.std.specs.Prelude.{◌≡◌, ◌+◌, ◌<◌, ◌++◌, ℕ, List, [], ◌∷◌, length, drop, Option}
use Rattle.bincode_base.specs.declared.error.DecodeError.{DecodeError}
use Rattle.bincode_base.specs.declared.error.DecodeError.TheVariants as decoding
use Rattle.bincode_spec.specs.Answer.{StepsOf}
use Rattle.bincode_spec.specs.Charge.{Step, StaysWithin, Passes}
use Rattle.bincode_spec.specs.Fault.{Fault, Tells}
use Rattle.bincode_spec.specs.Format.{Format}
use Rattle.bincode_spec.specs.Meaning.{Meaning}
use Rattle.bincode_spec.specs.Slice.{IsDecoded, EndsSlice}
use Rattle.frames.specs.Frames.{Reads, framed_word}
use Rattle.frames.specs.declared.Frame.TheVariants as frames
use Rattle.framed_store.specs.declared.ending.Ending.{Ending}
use Rattle.framed_store.specs.declared.listing.Record.{Record}
use Rattle.framed_store.specs.declared.records.Content.{Content}
use Rattle.framed_store.specs.declared.records.Content.TheVariants.{Value, Damaged, Undecodable, Longer}
use Rattle.framed_store.specs.declared.records.Next.{Next}
use Rattle.framed_store.specs.declared.records.Next.TheVariants as next
use Rattle.framed_store.specs.Steps.{IsWhole, IsDamaged, EndsAt}

-- no encoding within the limit begins the bytes, and the error tells why
pub record IsRefusedFor (F : Format Meaning) (limit : Option ℕ) (bytes : List ℕ) (why : DecodeError) : Type 0 where
  pub no_word : (word remaining : List ℕ) (meaning : Meaning) (steps : List Step) → bytes ≡ word ++ remaining → F.Word word meaning steps → StaysWithin limit 0 steps → ⊥
  pub tells : (fault : Fault) (steps : List Step) → F.Faults bytes fault steps → StaysWithin limit 0 steps → Tells EndsSlice fault why
  pub keeps : (steps : List Step) → StepsOf F bytes steps → Passes limit 0 steps → why ≡ decoding.LimitExceeded

-- what a word holds
abbrev pub IsContent : {A : Type 0} → Format Meaning → Option ℕ → (Meaning → A → Type 0) → List ℕ → Content A → Type 0
IsContent F limit decodes_to word (Value v) = IsDecoded F limit word (λ m. decodes_to m v) (length word)
IsContent F limit decodes_to word Damaged = ⊥
IsContent F limit decodes_to word (Undecodable why) = IsRefusedFor F limit word why
IsContent F limit decodes_to word (Longer taken) = IsDecoded F limit word (λ _. Unit {0}) taken × (taken < length word)

-- what the frame holds that the bytes begin with, of this size
abbrev pub IsRecord : {A : Type 0} → Format Meaning → Option ℕ → (Meaning → A → Type 0) → ℕ → List ℕ → ℕ → Content A → Type 0
IsRecord F limit decodes_to most bytes size Damaged = IsDamaged most bytes size
IsRecord F limit decodes_to most bytes size (Value v) = IsWhole most bytes size × IsContent F limit decodes_to (framed_word bytes) (Value v)
IsRecord F limit decodes_to most bytes size (Undecodable why) = IsWhole most bytes size × IsContent F limit decodes_to (framed_word bytes) (Undecodable why)
IsRecord F limit decodes_to most bytes size (Longer taken) = IsWhole most bytes size × IsContent F limit decodes_to (framed_word bytes) (Longer taken)

-- what stands where a record is to begin; each case excludes the others
abbrev pub IsNext : {A : Type 0} → Format Meaning → Option ℕ → (Meaning → A → Type 0) → ℕ → List ℕ → Next A → Type 0
IsNext F limit decodes_to most bytes next.End = Reads most bytes frames.End
IsNext F limit decodes_to most bytes next.Torn = Reads most bytes frames.Torn
IsNext F limit decodes_to most bytes (next.TooLong n) = Reads most bytes (frames.TooLong n)
IsNext F limit decodes_to most bytes (next.Record size content) = IsRecord F limit decodes_to most bytes size content

-- at an offset the frames that the records tell follow, in order; after them, at `end`, is the rest
abbrev pub ReadFrom : {A : Type 0} → Format Meaning → Option ℕ → (Meaning → A → Type 0) → ℕ → ℕ → List ℕ → List (Record A) → ℕ → List ℕ → Type 0
ReadFrom F limit decodes_to most at input [] end remaining = (end ≡ at) × (remaining ≡ input)
ReadFrom F limit decodes_to most at input (r ∷ records) end remaining =
    IsRecord F limit decodes_to most input r.size r.content × (r.offset ≡ at) × ReadFrom F limit decodes_to most (at + r.size) (drop r.size input) records end remaining

-- the records are those of the frames of the store, up to its end or to the first bytes that begin with none
pub record Lists {A : Type 0} (F : Format Meaning) (limit : Option ℕ) (decodes_to : Meaning → A → Type 0) (most : ℕ) (store : List ℕ) (records : List (Record A)) (ending : Ending) : Type 0 where
  pub end : ℕ
  pub remaining : List ℕ
  pub frames : ReadFrom F limit decodes_to most 0 store records end remaining
  pub ends : EndsAt most end remaining ending
