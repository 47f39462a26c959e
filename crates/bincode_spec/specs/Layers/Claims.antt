-- What a claim returns and what it leaves unchanged.
use Rattle.std.specs.Prelude.{◌≡◌, ℕ, List, Option, Result, OnOk, IfErr, ◌+◌, ◌-◌, ◌⊎◌, ◌^◌, nat_lt, if◌then◌else◌, Some, None}
use Rattle.std.specs.Borrow.{GName}
use Rattle.bincode_base.specs.declared.error.DecodeError.{DecodeError}
use Rattle.bincode_base.specs.declared.error.DecodeError.TheVariants.{LimitExceeded}
use Rattle.bincode_spec.specs.Answer.{after_release, after_claim}

-- the claim of n bytes succeeds
abbrev pub ClaimSucceeds : Option ℕ → ℕ → ℕ → ℕ → Type 0
ClaimSucceeds limit before n after = after_claim limit before n ≡ Some after

-- the claim passes the limit: the new charge is kept if it fits 64 bits
abbrev pub ClaimFails : Option ℕ → ℕ → ℕ → ℕ → Type 0
ClaimFails limit before n after = (after_claim limit before n ≡ None) × (after ≡ (if nat_lt (before + n) (2 ^ 64) then before + n else before))

-- A claim of n bytes was made: it succeeded or passed the limit, and released nothing.
abbrev pub Charges : Option ℕ → ℕ → ℕ → ℕ → Type 0
Charges limit before n after = ClaimSucceeds limit before n after ⊎ ClaimFails limit before n after

-- a claim of n bytes succeeds, or fails because it passes the limit
pub record Claims (limit : Option ℕ) (before n after : ℕ) (result : Result (Unit {0}) DecodeError) : Type 0 where
  pub ok : OnOk result (ClaimSucceeds limit before n after)
  pub err : IfErr result (λ e. (e ≡ LimitExceeded) × ClaimFails limit before n after)

-- a decoder (`old` before, `new` after) has the input, failures, reader, context and references that it had
pub record OnlyCharged {D R C : Type 0} (is_known : D → Type 0) (remaining : D → List ℕ) (failures : D → ℕ) (reader_of : D → R) (context_of : D → C) (loans : D → List GName) (old new : D) : Type 0 where
  pub same_remaining : remaining new ≡ remaining old
  pub same_failures : failures new ≡ failures old
  pub tells : is_known old → is_known new
  pub same_reader : reader_of new ≡ reader_of old
  pub same_context : context_of new ≡ context_of old
  pub same_loans : loans new ≡ loans old

-- it claimed n bytes, and did nothing else
pub record MakesClaim {D R C : Type 0} (is_known : D → Type 0) (remaining : D → List ℕ) (charge failures : D → ℕ) (reader_of : D → R) (context_of : D → C) (loans : D → List GName)
    (limit : Option ℕ) (n : ℕ) (result : Result (Unit {0}) DecodeError) (old new : D) : Type 0 where
  pub claimed : Claims limit (charge old) n (charge new) result
  pub kept : OnlyCharged is_known remaining failures reader_of context_of loans old new

-- it released n bytes of its charge, and did nothing else
pub record MakesRelease {D R C : Type 0} (is_known : D → Type 0) (remaining : D → List ℕ) (charge failures : D → ℕ) (reader_of : D → R) (context_of : D → C) (loans : D → List GName)
    (limit : Option ℕ) (n : ℕ) (old new : D) : Type 0 where
  pub released : charge new ≡ after_release limit (charge old) n
  pub kept : OnlyCharged is_known remaining failures reader_of context_of loans old new
