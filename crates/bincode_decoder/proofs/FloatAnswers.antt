-- Floats, from the numbers that are their bits.
use Rattle.std.specs.Prelude.{◌≡◌, ℕ, List, Option, Result, Ok, Err, refl, from_bits}
use Rattle.std.specs.Borrow.{GName}
use Rattle.std.proofs.Common.{ap, sym}
use Rattle.std.specs.Float.{Float, Format as FloatFormat}
use Rattle.bincode_base.specs.declared.error.DecodeError.{DecodeError}
use Rattle.bincode_base.specs.Setting.{Setting}
use Rattle.bincode_spec.specs.Device.{DeviceErrors}
use Rattle.bincode_spec.specs.Answer.{answer}
use Rattle.bincode_spec.specs.Format.{Format, written_as}
use Rattle.bincode_spec.specs.Meaning.{Real, IsReal}
use Rattle.bincode_spec.specs.Layers.Values.{Reads}
use Rattle.bincode_spec.specs.Floats.{float_bits, IsFloatWord, float}
use Rattle.bincode_decoder.proofs.PartAnswers.{first-stops, test-passed}

module _ {D : Type 0} {is_known : D → Type 0} {remaining : D → List ℕ} {charge failures : D → ℕ} {loans : D → List GName} {limit : Option ℕ}
    {end_error : ℕ → DecodeError → Type 0} {device : DeviceErrors} {G : Type 0} {start : ℕ} {old new : D} where
  -- what is written does not change what is read
  reads-rewritten : {A T : Type 0} (C : List ℕ → A → Type 0) (F : Format A) {decodes_to : A → T → Type 0} {r : Result T DecodeError} →
      Reads is_known remaining charge failures loans limit end_error device G F decodes_to start r old new →
      Reads is_known remaining charge failures loans limit end_error device G (written_as C F) decodes_to start r old new
  unfolding answer written_as
  reads-rewritten C F read = record {
    ok = read.ok;
    err = read.err;
    failures_monotone = read.failures_monotone;
    tells = read.tells;
    charge_kept = read.charge_kept;
    within = read.within;
    same_loans = read.same_loans;
  }

  module _ (f : FloatFormat) (s : Setting) where
    -- the bits were read, and a float is made of them
    pub float-reads : (n : ℕ) (v : Float) → v ≡ from_bits f n →
        Reads is_known remaining charge failures loans limit end_error device G (float_bits f s) (λ m k. m ≡ k) start (Ok n) old new →
        Reads is_known remaining charge failures loans limit end_error device G (float f s) (λ m w. IsReal w m) start (Ok v) old new
    float-reads n v e read =
        reads-rewritten (IsFloatWord f s) _ (test-passed (λ k. Ok (Real (from_bits f k))) read (Real (from_bits f n)) v refl (ap Real (sym e)))

    -- reading the bits failed
    pub float-stops : {e : DecodeError} →
        Reads {T = ℕ} is_known remaining charge failures loans limit end_error device G (float_bits f s) (λ m k. m ≡ k) start (Err e) old new →
        Reads {T = Float} is_known remaining charge failures loans limit end_error device G (float f s) (λ m w. IsReal w m) start (Err e) old new
    float-stops read = reads-rewritten (IsFloatWord f s) _ (first-stops _ _ (λ h. h) read)
