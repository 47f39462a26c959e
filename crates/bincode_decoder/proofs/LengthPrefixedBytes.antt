-- Bytes that are read in one piece: the fault of a short input leaves open by how many.
use Rattle.std.specs.Prelude.{◌≡◌, ◌-◌, ◌<◌, ◌⊎◌, ℕ, Bool, true, false, List, [], ◌++◌, Some, None, length, Result, Ok, Err, refl}
use Rattle.std.specs.Borrow.{GName}
use Rattle.std.specs.Str.{IsUtf8, is_utf8}
use Rattle.std.specs.String.{string_bytes, string_capacity, string_vec}
use Rattle.std.specs.Vec.{vec_items, vec_capacity}
use Rattle.std.specs.declared.string.String.{String}
use Rattle.std.specs.declared.vec.Vec.{Vec}
use Rattle.std.proofs.Common.{sym, ◌∙◌, ap, inl, inr}
use Rattle.std.proofs.lemmas.Result.{on_ok_weaker, IfErr-weaker}
use Rattle.std.proofs.lemmas.Str.{IsUtf8-from_is_utf8, IsUtf8-string_bytes}
use Rattle.bincode_base.specs.declared.error.DecodeError.{DecodeError}
use Rattle.bincode_spec.specs.Fault.{End, Utf8}
use Rattle.bincode_spec.specs.Device.{DeviceErrors, CountRises, Takes}
use Rattle.bincode_spec.specs.Layers.Pieces.{FallsShort, FillsBuffer}
use Rattle.bincode_spec.specs.Format.{Took, Failed, fixed_bytes, without_count, reading_without_count}
use Rattle.bincode_spec.specs.Layers.Reads.{ReadsWord, ReadFailure, by_fault, by_failure, by_device}
use Rattle.bincode_spec.specs.Meaning.{Bytes}
use Rattle.bincode_spec.specs.Words.{text_of}
use Rattle.bincode_lemmas.specs.FormatLaws.{fixed_bytes-lawful}
use Rattle.bincode_lemmas.specs.TextLaws.{text_of-passes}
use Rattle.bincode_io.proofs.Words.{fixed_bytes-read}
use Rattle.bincode_decoder.proofs.BytesAtOnce.{both-of_err}

pub took : (bytes remaining input : List ℕ) (n : ℕ) → length bytes ≡ n → input ≡ bytes ++ remaining → (without_count (fixed_bytes n)).read input ≡ Took bytes remaining []
unfolding without_count
took bytes remaining input n k e = ap reading_without_count (ap (fixed_bytes n).read e ∙ fixed_bytes-read bytes remaining n k)

short : (input : List ℕ) (n : ℕ) → length input < n → (without_count (fixed_bytes n)).read input ≡ Failed (End None) []
unfolding without_count fixed_bytes
short input n h = ap reading_without_count ((fixed_bytes-lawful n).fault_read input (End (Some (n - length input))) [] (h, refl, refl))

pub misread : (end_error : ℕ → DecodeError → Type 0) (device : DeviceErrors) (remaining remaining' : List ℕ) (n before after : ℕ) (e : DecodeError) →
    FallsShort end_error remaining n e ⊎ (device.is_uncounted e ⊎ (device.is_counted e × CountRises before after)) → device.is_uncounted e ⊎ Takes remaining remaining' →
    ReadFailure end_error device ((without_count (fixed_bytes n)).read remaining) before after remaining remaining' e
misread end_error device remaining remaining' n before after e why (inl d) = by_device d
misread end_error device remaining remaining' n before after e (inl h) (inr t) = by_fault (End None) (short remaining n h.0) (n - length remaining, h.1) t
misread end_error device remaining remaining' n before after e (inr (inl h)) (inr t) = by_device h
misread end_error device remaining remaining' n before after e (inr (inr h)) (inr t) = by_failure h.0 h.1 t

-- a buffer that was filled is read
pub filled-reads :
    {R : Type 0} {is_known : R → Type 0} {remaining : R → List ℕ} {failures : R → ℕ} {loans : R → List GName} {end_error : ℕ → DecodeError → Type 0}
    {device : DeviceErrors} {before bytes : List ℕ} (n : ℕ) {r : Result (Unit {0}) DecodeError} {old new : R} →
    length before ≡ n → length bytes ≡ n →
    FillsBuffer is_known remaining failures loans end_error device before bytes r old new → ReadsWord is_known remaining failures loans end_error device (without_count (fixed_bytes n)) (λ _. bytes) r old new
filled-reads {remaining = remaining} {failures = failures} {end_error = end_error} {device = device} {bytes = bytes} n {r = r} {old = old} {new = new} l k fills = record {
  ok = λ known. on_ok_weaker r (took bytes (remaining new) (remaining old) n k) (fills.next known);
  err = λ known. IfErr-weaker r _ _ (λ e h. misread end_error device (remaining old) (remaining new) n (failures old) (failures new) e (rw l at h.0) h.1)
      (both-of_err r _ _ (fills.why known) (fills.left known));
  failures_monotone = fills.failures_monotone;
  tells = fills.tells;
  same_loans = fills.same_loans;
}

-- the bytes of a text are its meaning,
pub text-bytes : {Z : Type 0} (t : String Z) (v : Vec ℕ Z) → string_vec t ≡ v → v.items ≡ string_bytes t
text-bytes t v e = ap vec_items (sym e)

-- and its capacity is their number,
pub text-room : {Z : Type 0} (t : String Z) (v : Vec ℕ Z) → string_vec t ≡ v → vec_capacity v ≡ length v.items → string_capacity t ≡ length (string_bytes t)
text-room t v e h = ap vec_capacity e ∙ h ∙ ap length (text-bytes t v e)

pub text-passes : {Z : Type 0} (t : String Z) (v : Vec ℕ Z) → string_vec t ≡ v → text_of v.items ≡ Ok (Bytes v.items)
text-passes t v e = text_of-passes v.items (rw (sym (text-bytes t v e)) at (IsUtf8-string_bytes t))

-- and bytes that are not UTF-8 are refused
pub text-fails : (bytes : List ℕ) → ¬ (IsUtf8 bytes) → text_of bytes ≡ Err Utf8
text-fails bytes h = refuses (is_utf8 bytes) refl
  where
    refuses : (b : Bool) → is_utf8 bytes ≡ b → text_of bytes ≡ Err Utf8
    refuses true e = absurd (h (IsUtf8-from_is_utf8 bytes e))
    refuses false e = rw e refl
