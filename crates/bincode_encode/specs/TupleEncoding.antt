-- Encoding a tuple: its first part, then the others.
use Rattle.std.specs.Prelude.{◌⊎◌, List, Result, Ok, Err}
use Rattle.std.specs.Borrow.{GName}
use Rattle.bincode_base.specs.declared.error.EncodeError.{EncodeError}
use Rattle.bincode_spec.specs.Format.{Format}
use Rattle.bincode_spec.specs.Meaning.{Meaning, IsThen}
use Rattle.bincode_spec.specs.Words.{first_and}
use Rattle.bincode_spec.specs.Allowed.{AllowedWord}
use Rattle.bincode_lemmas.specs.AllowedLaws.{tuple-allows, allowed-tuple}
use Rattle.bincode_spec.specs.Encoding.{Adds, Refuses, Encodes}
use Rattle.bincode_encoder.proofs.EncodingAnswers.{Joined, first-halts, next-encodes}

module _ {P Q : Meaning → Type 0} {F : Format Meaning} (others : Format Meaning) {R S : Type 0} {N M : EncodeError → Type 0} {E W T V : Type 0}
    {adds : Adds W} {refuses : Refuses W} {writer_of : E → W} {loans : E → List GName} {old new : E} where
  -- encoding fails in the first part
  pub tuple-halts : {e : EncodeError} → Encodes {T = T} adds refuses writer_of loans R (AllowedWord P F) N (Err e) old new →
      Encodes {T = V} adds refuses writer_of loans (R × S) (AllowedWord (IsThen P Q) (first_and F others)) (λ d. N d ⊎ M d) (Err e) old new
  tuple-halts = first-halts {R = R} {S = S} (λ r s. (r, s)) (λ u. u) (tuple-allows P Q F others) (allowed-tuple P Q F others) {N = N} {M = M} (λ e n. n)

  -- the first part succeeds, then the others are encoded
  pub tuple-encodes : {t : T} {r : Result V EncodeError} {between : E} → Joined adds →
      Encodes adds refuses writer_of loans R (AllowedWord P F) N (Ok t) old between →
      Encodes adds refuses writer_of loans S (AllowedWord Q others) M r between new →
      Encodes adds refuses writer_of loans (R × S) (AllowedWord (IsThen P Q) (first_and F others)) (λ d. N d ⊎ M d) r old new
  tuple-encodes = next-encodes {R = R} {S = S} (λ r s. (r, s)) (λ u. u) (tuple-allows P Q F others) (allowed-tuple P Q F others) {N = N} {M = M} (λ e n. n)
