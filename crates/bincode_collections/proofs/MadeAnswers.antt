-- Making a value from another, for which an allocation may be refused.
use Rattle.std.specs.Prelude.{◌≡◌, ℕ, List, Option, Ok, Err}
use Rattle.std.specs.Borrow.{GName}
use Rattle.bincode_base.specs.declared.error.DecodeError.{DecodeError}
use Rattle.bincode_base.specs.declared.error.DecodeError.TheVariants.{Memory}
use Rattle.bincode_spec.specs.Device.{DeviceErrors}
use Rattle.bincode_spec.specs.Format.{Format}
use Rattle.bincode_spec.specs.Layers.Laws.{IsLawful}
use Rattle.bincode_spec.specs.Decoding.{by_memory}
use Rattle.bincode_spec.specs.Layers.Values.{Reads}
use Rattle.bincode_lemmas.specs.DecodingLaws.{stops-besides, gave-takes}
use Rattle.bincode_decoder.proofs.ReadAnswers.{read-as, made-of}

module _ {D A T U : Type 0} {is_known : D → Type 0} {remaining : D → List ℕ} {charge failures : D → ℕ} {loans : D → List GName} {limit : Option ℕ}
    {end_error : ℕ → DecodeError → Type 0} {device : DeviceErrors} {G : Type 0} {F : Format A} {decodes_to : A → T → Type 0} {other : A → U → Type 0} {charged : ℕ} {old new : D} where
  -- it is made
  pub read-made : {H : Type 0} {v : T} {u : U} → ((m : A) → decodes_to m v → other m u) → Reads is_known remaining charge failures loans limit end_error device G F decodes_to charged (Ok v) old new →
      Reads is_known remaining charge failures loans limit end_error device H F other charged (Ok u) old new
  read-made made read = read-as (λ known. made-of made (read.ok known)) (λ known. tt) read.within read

  -- the error is `Memory`
  pub read-refused : IsLawful F → {v : T} {e : DecodeError} → e ≡ Memory → Reads is_known remaining charge failures loans limit end_error device G F decodes_to charged (Ok v) old new →
      Reads is_known remaining charge failures loans limit end_error device (Unit {0}) F other charged (Err e) old new
  read-refused f e read = read-as (λ known. tt) (λ known. let d = read.ok known in by_memory tt e (gave-takes limit F f (remaining old) charged d.meaning (remaining new) (charge new) d.answer_is)) (λ _. tt) read

  -- decoding the other value failed
  pub read-failed : {e : DecodeError} → Reads is_known remaining charge failures loans limit end_error device G F decodes_to charged (Err e) old new →
      Reads is_known remaining charge failures loans limit end_error device (Unit {0}) F other charged (Err e) old new
  read-failed read = read-as (λ known. tt) (λ known. stops-besides _ _ _ _ (λ _. tt) _ _ _ _ _ _ (read.err known)) (λ _. tt) read
