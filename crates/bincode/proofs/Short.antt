-- The failures of a value whose words have one length.
use Rattle.std.specs.Prelude.{◌≡◌, ◌⊎◌, ℕ, List, [], Result, Ok, Err, IfErr}
use Rattle.std.proofs.Common.{inl, inr, subst}
use Rattle.std.proofs.Math.Nat.{lt_of_not-le}
use Rattle.bincode_base.specs.declared.error.EncodeError.{EncodeError}
use Rattle.bincode_base.specs.declared.error.EncodeError.TheVariants.{Memory, UnexpectedEnd}
use Rattle.bincode_spec.specs.Allowed.{OneLength}
use Rattle.bincode_spec.specs.Encoding.{IsReady}
use Rattle.bincode_spec.specs.Slice.{FitsExactly}
use Rattle.bincode.specs.Short.{LacksMemory, TooShort}

only_end : (N : EncodeError → Type 0) → ((e : EncodeError) → N e → ⊥) → (e : EncodeError) → (e ≡ UnexpectedEnd) ⊎ N e → e ≡ UnexpectedEnd
only_end N none e (inl h) = h
only_end N none e (inr n) = absurd (none e n)

-- each word is longer than the slice
pub too-short : (R : Type 0) (A : List ℕ → Type 0) (N : EncodeError → Type 0) (room : ℕ) → OneLength A → ((e : EncodeError) → N e → ⊥) → R →
    (result : Result ℕ EncodeError) → FitsExactly (IsReady R A) N room result → IfErr result (λ e. (e ≡ UnexpectedEnd) ⊎ N e) → IfErr result (TooShort A room)
too-short R A N room one none r (Ok n) fits fault = tt
too-short R A N room one none r (Err e) fits fault =
    let fitting = fits.exact (λ v w a b. one v w a.is_allowed b.is_allowed) none in
    (only_end N none e fault, λ word a. lt_of_not-le (λ h. let k = (fitting word (record { is_writable = r; is_allowed = a })).1 h in cc))

only_memory : (N : EncodeError → Type 0) → ((e : EncodeError) → N e → ⊥) → (e : EncodeError) → (e ≡ Memory) ⊎ N e → e ≡ Memory
only_memory N none e (inl h) = h
only_memory N none e (inr n) = absurd (none e n)

-- `Memory` comes only of a value with bytes
pub lacks-memory : (R : Type 0) (A : List ℕ → Type 0) (N : EncodeError → Type 0) → OneLength A → ((e : EncodeError) → N e → ⊥) → R →
    (e : EncodeError) → (OneLength (IsReady R A) → IsReady R A [] → N e) → (e ≡ Memory) ⊎ N e → LacksMemory A e
lacks-memory R A N one none r e empty fault =
    (only_memory N none e fault, λ word a is. none e (empty (λ v w a b. one v w a.is_allowed b.is_allowed) (record { is_writable = r; is_allowed = subst A is a })))
