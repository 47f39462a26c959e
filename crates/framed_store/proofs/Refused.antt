-- A word that is no value's.
use Rattle.std.specs.Prelude.{◌≡◌, ℕ, List, Option, Err}
use Rattle.std.proofs.Common.{inl, inr}
use Rattle.bincode_base.specs.declared.error.DecodeError.{DecodeError}
use Rattle.bincode_base.specs.declared.error.DecodeError.TheVariants.{Memory}
use Rattle.bincode_spec.specs.Format.{Format}
use Rattle.bincode_spec.specs.Meaning.{Meaning}
use Rattle.bincode_spec.specs.Slice.{FindsWords, TellsFaults, KeepsLimit}
use Rattle.framed_store.specs.Told.{IsRefusedFor}

-- an error other than `Memory` tells why no encoding begins the word
pub refused-for : (F : Format Meaning) (limit : Option ℕ) (MayAllocate : Type 0) (word : List ℕ) (e : DecodeError) → ¬ (e ≡ Memory) → FindsWords {A = Unit {0}} F limit MayAllocate word (Err e) →
    TellsFaults {A = Unit {0}} F limit MayAllocate word (Err e) → KeepsLimit {A = Unit {0}} F limit MayAllocate word (Err e) → IsRefusedFor F limit word e
refused-for F limit MayAllocate word e other found tells keeps = record {
  no_word = λ first behind m steps i w h. other (found first behind m steps i w h).1;
  tells = λ fault steps h w. elim (tells fault steps h w) [ inl t ↦ t | inr r ↦ absurd (other r.1) ];
  keeps = λ steps h p. elim (keeps steps h p) [ inl t ↦ t | inr r ↦ absurd (other r.1) ];
}
