-- Testing a value that was decoded.
use Rattle.std.specs.Prelude.{◌≡◌, ℕ, List, Option, Ok, Err, Bool, true, false}
use Rattle.std.specs.Borrow.{GName}
use Rattle.bincode_base.specs.declared.error.DecodeError.{DecodeError}
use Rattle.bincode_spec.specs.Device.{DeviceErrors}
use Rattle.bincode_spec.specs.Fault.{Fault}
use Rattle.bincode_spec.specs.Format.{Format}
use Rattle.bincode_spec.specs.Layers.Laws.{IsLawful}
use Rattle.bincode_spec.specs.Meaning.{Meaning}
use Rattle.bincode_spec.specs.Validated.{passed_of, with_test, TellsOwn}
use Rattle.bincode_spec.specs.Decoding.{by_fault}
use Rattle.bincode_spec.specs.Layers.Values.{Reads}
use Rattle.bincode_lemmas.specs.ValidatedLaws.{with_test-is, failed-is, own-tells}
use Rattle.bincode_lemmas.specs.DecodingLaws.{from_result-gave, from_result-refused, gave-takes}
use Rattle.bincode_decoder.proofs.ReadAnswers.{read-as}

module _ {D T U : Type 0} {is_known : D → Type 0} {remaining : D → List ℕ} {charge failures : D → ℕ} {loans : D → List GName} {limit : Option ℕ}
    {end_error : ℕ → DecodeError → Type 0} {device : DeviceErrors} {G : Type 0} {F : Format Meaning} {decodes_to : Meaning → T → Type 0}
    {other : Meaning → U → Type 0} {start : ℕ} {old new : D} (passes : Meaning → Bool) (why : Fault) {v : T}
    (read : Reads is_known remaining charge failures loans limit end_error device G F decodes_to start (Ok v) old new) where
  -- it passes
  pub read-passed : {u : U} → ((m : Meaning) → decodes_to m v → (passes m ≡ true) × other m u) →
      Reads is_known remaining charge failures loans limit end_error device G (with_test passes why F) other start (Ok u) old new
  read-passed test =
      read-as
      (λ known.
      let d = read.ok known in
      let t = test d.meaning d.is_decoded in
      record {
        meaning = d.meaning;
        answer_is = from_result-gave (passed_of passes why) limit F (remaining old) start d.meaning (remaining new) (charge new) d.meaning d.answer_is (with_test-is passes why d.meaning t.0);
        is_decoded = t.1;
      })
      (λ known. tt)
      read.within
      read

  -- it fails
  pub read-failing : IsLawful F → {e : DecodeError} → ((m : Meaning) → decodes_to m v → passes m ≡ false) → TellsOwn why e →
      Reads is_known remaining charge failures loans limit end_error device G (with_test passes why F) other start (Err e) old new
  read-failing f {e = e} test tells =
      read-as
      (λ known. tt)
      (λ known.
      let d = read.ok known in
      by_fault why
      (from_result-refused (passed_of passes why) limit F (remaining old) start d.meaning (remaining new) (charge new) why d.answer_is (failed-is passes why d.meaning (test d.meaning d.is_decoded)))
      (own-tells end_error why e tells)
      (gave-takes limit F f (remaining old) start d.meaning (remaining new) (charge new) d.answer_is))
      (λ _. tt)
      read
