-- Decoding bytes that are one encoding, and nothing more.
use Rattle.std.specs.Prelude.{◌≡◌, ◌<◌, ℕ, List, Option, Result, Ok, Err, IfErr}
use Rattle.bincode_base.specs.declared.error.DecodeError.{DecodeError}
use Rattle.bincode_base.specs.declared.error.DecodeError.TheVariants as decoding
use Rattle.bincode_spec.specs.Charge.{Step, StaysWithin}
use Rattle.bincode_spec.specs.Format.{Format}
use Rattle.bincode_spec.specs.Meaning.{Meaning}
use Rattle.bincode.specs.declared.exact.DecodeExactError.{DecodeExactError}
use Rattle.bincode.specs.declared.exact.DecodeExactError.TheVariants as exact

-- an answer to a slice of n bytes, as one that wants all of them to be taken
abbrev pub TakesAll : {A : Type 0} → ℕ → Result (A × ℕ) DecodeError → Result A DecodeExactError → Type 0
TakesAll n (Ok read) (Ok value) = (value ≡ read.0) × (read.1 ≡ n)
TakesAll n (Ok read) (Err (exact.TrailingBytes taken)) = (taken ≡ read.1) × (taken < n)
TakesAll n (Ok read) (Err (exact.Decode why)) = ⊥
TakesAll n (Err e) (Ok value) = ⊥
TakesAll n (Err e) (Err (exact.TrailingBytes taken)) = ⊥
TakesAll n (Err e) (Err (exact.Decode why)) = why ≡ e

-- if all of the bytes are a word whose steps stay within the limit, the one error is `Memory`, if decoding may allocate
abbrev pub ReadsWhole : {A : Type 0} → Format Meaning → Option ℕ → Type 0 → List ℕ → Result A DecodeExactError → Type 0
ReadsWhole F limit MayAllocate input result = (meaning : Meaning) (steps : List Step) → F.Word input meaning steps → StaysWithin limit 0 steps →
    IfErr result (λ e. MayAllocate × (e ≡ exact.Decode decoding.Memory))
