-- Bytes that are lent by a source, as words.
use Rattle.std.specs.Prelude.{◌≡◌, ℕ, ◌+◌, ◌*◌, pos, List, nat_le, Option, Some, None, Result, Ok, Err, IfOk}
use Rattle.std.specs.Borrow.{GName}
use Rattle.std.proofs.Common.{arith}
use Rattle.std.proofs.lemmas.Result.{IfOk-weaker, IfErr-weaker}
use Rattle.bincode_base.specs.declared.error.DecodeError.{DecodeError}
use Rattle.bincode_spec.specs.Answer.{Allows}
use Rattle.bincode_spec.specs.Layers.Claims.{ClaimSucceeds}
use Rattle.bincode_spec.specs.Device.{DeviceErrors}
use Rattle.bincode_spec.specs.Format.{fixed_bytes, without_count}
use Rattle.bincode_spec.specs.Integers.{unsigned_byte}
use Rattle.bincode_spec.specs.Layers.Lending.{TakesBytes}
use Rattle.bincode_spec.specs.Meaning.{IsNumber}
use Rattle.bincode_spec.specs.Layers.Reads.{ReadsWord}
use Rattle.bincode_spec.specs.Layers.Releases.{CanRelease}
use Rattle.bincode_spec.specs.Layers.Values.{RunRead}
use Rattle.bincode_spec.specs.Words.{natural_number}
use Rattle.bincode_decoder.proofs.BytesAtOnce.{bytes-decode, bytes-stop, both-of_err}
use Rattle.bincode_decoder.proofs.LengthPrefixedBytes.{took, misread}
use Rattle.bincode_decoder.proofs.Rooms.{claimed_by, held-still, whatever_given}

-- two facts of a value
pub both-of_ok : {T E : Type 0} (r : Result T E) (P Q : T → Type 0) → IfOk r P → IfOk r Q → IfOk r (λ v. P v × Q v)
both-of_ok (Ok v) P Q p q = (p, q)
both-of_ok (Err e) P Q p q = tt

-- they are one word,
pub taken-reads :
    {R T : Type 0} {is_known : R → Type 0} {remaining : R → List ℕ} {failures : R → ℕ} {loans : R → List GName} {end_error : ℕ → DecodeError → Type 0}
    {device : DeviceErrors} {bytes : T → List ℕ} (n : ℕ) {r : Result T DecodeError} {old new : R} →
    TakesBytes is_known remaining failures loans end_error device bytes n r old new → ReadsWord is_known remaining failures loans end_error device (without_count (fixed_bytes n)) bytes r old new
taken-reads {remaining = remaining} {failures = failures} {end_error = end_error} {device = device} {bytes = bytes} n {r = r} {old = old} {new = new} takes = record {
  ok = λ known. IfOk-weaker r _ _ (λ v h. took (bytes v) (remaining new) (remaining old) n h.1 h.0) (both-of_ok r _ _ (takes.next known) takes.whole);
  err = λ known. IfErr-weaker r _ _ (λ e h. misread end_error device (remaining old) (remaining new) n (failures old) (failures new) e h.0 h.1)
      (both-of_err r _ _ (takes.why known) (takes.left known));
  failures_monotone = takes.failures_monotone;
  tells = takes.tells;
  same_loans = takes.same_loans;
}

-- and a run of bytes, whose claim was made
pub taken-run :
    {D T : Type 0} {is_known : D → Type 0} {remaining : D → List ℕ} {charge failures : D → ℕ} {loans : D → List GName} {limit : Option ℕ}
    {end_error : ℕ → DecodeError → Type 0} {device : DeviceErrors} {H : Type 0} {bytes : T → List ℕ} {n : ℕ} {r : Result T DecodeError} {old new : D} →
    Allows limit (charge old) → CanRelease limit (charge old) (n * 1) → TakesBytes is_known remaining failures loans end_error device bytes n r old new → charge new ≡ charge old →
    RunRead is_known remaining charge failures loans limit end_error device H 1 (natural_number unsigned_byte) (λ m k. IsNumber (pos k) m) n bytes r old new
taken-run {remaining = remaining} {charge = charge} {failures = failures} {limit = limit} {end_error = end_error} {device = device} {H = H} {bytes = bytes} {n = n} {r = r} {old = old} {new = new} l h takes still = record {
  ok = λ known. rw still (IfOk-weaker r _ _ (λ v b. bytes-decode limit n (remaining old) (charge old) l h (bytes v) (remaining new) b.0 b.1) (both-of_ok r _ _ (takes.next known) takes.whole));
  err = λ known. IfErr-weaker r _ _ (λ e b. bytes-stop limit n (remaining old) (charge old) l h end_error device H (failures old) (failures new) (remaining new) e still b.0 b.1)
      (both-of_err r _ _ (takes.why known) (takes.left known));
  failures_monotone = takes.failures_monotone;
  tells = takes.tells;
  charge_kept = rw still (held-still _ _ _);
  within = λ a. whatever_given r (rw still a);
  same_loans = takes.same_loans;
}

-- a claim that succeeded can be released
pub claimed-room : (limit : Option ℕ) (before n after : ℕ) → ClaimSucceeds limit before n after → CanRelease limit after n
claimed-room None before n after h = tt
claimed-room (Some limit) before n after h = let e = claimed_by (nat_le (before + n) limit) (before + n) after h in omega (arith, e)
