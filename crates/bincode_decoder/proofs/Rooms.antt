-- The claims that are reserved for a run of values.
use Rattle.std.specs.Prelude.{if◌then◌else◌, ◌≡◌, ℕ, zero, suc, ◌+◌, ◌-◌, ◌*◌, ◌^◌, ◌<◌, ◌≤◌, nat_lt, nat_le, Bool, true, false, is_some, List, Option, Some, None, Result, Ok, Err, IfOk, refl}
use Rattle.std.specs.Bool.{MatchBool}
use Rattle.std.specs.Borrow.{GName}
use Rattle.std.proofs.Common.{arith}
use Rattle.std.proofs.lemmas.Bool.{false≢true, true≢false, le-ltb, cases_from_iff, leb-true, le-leb}
use Rattle.bincode_base.specs.declared.error.DecodeError.TheVariants.{LimitExceeded}
use Rattle.bincode_spec.specs.Layers.Claims.{Claims, OnlyCharged}
use Rattle.std.proofs.Math.Nat.{mul-le-mul_right}
use Rattle.bincode_spec.specs.Answer.{Allows, after_release}
use Rattle.bincode_spec.specs.Layers.Claims.{ClaimSucceeds, ClaimFails}
use Rattle.bincode_spec.specs.Layers.Releases.{ReleasesAtMost}
use Rattle.bincode_lemmas.specs.AnswerLaws.{claim-falls}

-- the claims of fewer values are within those of more
pub held-within : (limit : Option ℕ) (share n m start c : ℕ) → n ≤ m → ReleasesAtMost limit (n * share) start c → ReleasesAtMost limit (m * share) start c
held-within None share n m start c le h = h
held-within (Some limit) share n m start c le h = let k : n * share ≤ m * share = mul-le-mul_right share le in omega arith

-- if nothing was released, the claims are still reserved
pub held-still : (limit : Option ℕ) (room charge : ℕ) → ReleasesAtMost limit room charge charge
held-still None room charge = omega arith
held-still (Some limit) room charge = omega arith

-- the charge after a claim that succeeded
pub claimed_by : (b : Bool) (raised after : ℕ) → (if b then Some raised else None) ≡ Some after → after ≡ raised
claimed_by true raised after e = cc
claimed_by false raised after e = absurd (cc)

-- a claim that succeeds lowers nothing,
pub claimed-grows : (limit : Option ℕ) (before n after : ℕ) → ClaimSucceeds limit before n after → before ≤ after
claimed-grows None before n after h = let e : after ≡ before = cc in omega (arith, e)
claimed-grows (Some limit) before n after h = let e = claimed_by (nat_le (before + n) limit) (before + n) after h in omega (arith, e)

-- and leads to a charge within the limit;
pub claimed-within : (limit : Option ℕ) (before n after : ℕ) → ClaimSucceeds limit before n after → Allows limit after
claimed-within None before n after h = tt
claimed-within (Some limit) before n after h = stands (nat_le (before + n) limit) refl
  where
    stands : (b : Bool) → nat_le (before + n) limit ≡ b → after ≤ limit
    stands true e = let k : before + n ≤ limit = leb-true (before + n) limit e in let r : after ≡ before + n = claimed_by true (before + n) after (rw e at h) in omega (arith, k, r)
    stands false e = absurd (none (rw e at h))
      where
        none : ◌≡◌ {A = Option ℕ} None (Some after) → ⊥
        none k = cc

-- so does a release, if the charge was within it before
pub unclaimed-within : (limit : Option ℕ) (charge n : ℕ) → Allows limit charge → Allows limit (after_release limit charge n)
unclaimed-within None charge n h = tt
unclaimed-within (Some limit) charge n h = omega arith

-- a fact that does not depend on the value
pub whatever_given : {T E : Type 0} (r : Result T E) {P : Type 0} → P → IfOk r (λ _. P)
whatever_given (Ok v) p = p
whatever_given (Err e) p = tt

-- nor does it lower what is reserved,
pub claimed-held : (limit : Option ℕ) (before n after end : ℕ) → ClaimSucceeds limit before n after → ReleasesAtMost limit n after end → before ≤ end
claimed-held None before n after end h k = let e : after ≡ before = cc in omega (arith, e, k)
claimed-held (Some limit) before n after end h k = let e = claimed_by (nat_le (before + n) limit) (before + n) after h in omega (arith, e, k)

-- nor does one that passes the limit
pub over-grows : (limit : Option ℕ) (before n after : ℕ) → ClaimFails limit before n after → before ≤ after
over-grows limit before n after h = rw h.1 (each (nat_lt (before + n) (2 ^ 64)))
  where
    each : (b : Bool) → before ≤ (if b then before + n else before)
    each true = omega arith
    each false = omega arith

-- without a limit a claim counts nothing,
pub unlimited-claims : (limit : Option ℕ) (before n : ℕ) → is_some limit ≡ false → Claims limit before n before (Ok tt)
unlimited-claims None before n e = record { ok = refl; err = tt }
unlimited-claims (Some limit) before n e = absurd (true≢false e)

-- and under one, which fits 64 bits, a claim that doesn't fit them is refused
pub over-claims : (limit : Option ℕ) (before n : ℕ) → is_some limit ≡ true → ((l : ℕ) → limit ≡ Some l → l < 2 ^ 64) → 2 ^ 64 ≤ n → Claims limit before n before (Err LimitExceeded)
over-claims None before n e fits h = absurd (false≢true e)
over-claims (Some limit) before n e fits h = record {
  ok = tt;
  err = (refl, (claim-falls limit before n (let k = fits limit refl in omega arith), rw (le-ltb (before + n) (2 ^ 64) (omega arith)) refl));
}

-- memory that can be refused is for at least one
pub refused-some : (n : ℕ) → (n ≡ 0 → false ≡ true) → 0 < n
refused-some zero h = absurd (false≢true (h refl))
refused-some (suc n) h = omega arith

-- a decoder to which nothing was done
pub unchanged : {D R C : Type 0} {is_known : D → Type 0} {remaining : D → List ℕ} {failures : D → ℕ} {reader_of : D → R} {context_of : D → C} {loans : D → List GName} (d : D) →
    OnlyCharged is_known remaining failures reader_of context_of loans d d
unchanged d = record { same_remaining = refl; same_failures = refl; tells = λ h. h; same_reader = refl; same_context = refl; same_loans = refl }

-- what is released under a limit is taken off
pub unclaimed-some : (limit : Option ℕ) (charge n : ℕ) → true ≡ is_some limit → charge - n ≡ after_release limit charge n
unclaimed-some None charge n e = absurd (true≢false e)
unclaimed-some (Some limit) charge n e = refl

-- a comparison of two numbers, as a fact
pub leb-tells : (a b : ℕ) → MatchBool (nat_le a b) (a ≤ b) (¬ (a ≤ b))
leb-tells a b = cases_from_iff (leb-true a b, le-leb a b)
