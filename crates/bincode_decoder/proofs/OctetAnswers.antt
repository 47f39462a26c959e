-- Octets from a buffer that was filled.
use Rattle.std.specs.Prelude.{◌≡◌, ℕ, List, length, Result}
use Rattle.std.specs.Borrow.{GName}
use Rattle.std.proofs.Common.{◌∙◌, ap}
use Rattle.std.proofs.lemmas.Result.{on_ok_weaker, IfErr-weaker}
use Rattle.bincode_base.specs.declared.error.DecodeError.{DecodeError}
use Rattle.bincode_spec.specs.Device.{DeviceErrors}
use Rattle.bincode_spec.specs.Layers.Pieces.{FillsBuffer}
use Rattle.bincode_spec.specs.Format.{fixed_bytes}
use Rattle.bincode_spec.specs.Layers.Reads.{ReadsWord}
use Rattle.bincode_io.proofs.Words.{fixed_bytes-read, fixed_bytes-misreads}
use Rattle.bincode_decoder.proofs.BytesAtOnce.{both-of_err}

pub filled-octets :
    {R : Type 0} {is_known : R → Type 0} {remaining : R → List ℕ} {failures : R → ℕ} {loans : R → List GName} {end_error : ℕ → DecodeError → Type 0}
    {device : DeviceErrors} {before bytes : List ℕ} (n : ℕ) {r : Result (Unit {0}) DecodeError} {old new : R} →
    length before ≡ n → length bytes ≡ n →
    FillsBuffer is_known remaining failures loans end_error device before bytes r old new → ReadsWord is_known remaining failures loans end_error device (fixed_bytes n) (λ _. bytes) r old new
filled-octets {remaining = remaining} {failures = failures} {end_error = end_error} {device = device} {bytes = bytes} n {r = r} {old = old} {new = new} l k fills = record {
  ok = λ known. on_ok_weaker r (λ e. ap (fixed_bytes n).read e ∙ fixed_bytes-read bytes (remaining new) n k) (fills.next known);
  err = λ known. IfErr-weaker r _ _ (λ e h. fixed_bytes-misreads end_error device (remaining old) (remaining new) n (failures old) (failures new) e (rw l at h.0) h.1)
      (both-of_err r _ _ (fills.why known) (fills.left known));
  failures_monotone = fills.failures_monotone;
  tells = fills.tells;
  same_loans = fills.same_loans;
}
