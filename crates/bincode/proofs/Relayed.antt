-- What is read through a reader of a stream is read of the stream.
use Rattle.std.specs.Prelude.{◌≡◌, ℕ, List, Option, Result, IfOk, IfErr, ◌⊎◌}
use Rattle.std.proofs.Common.{subst}
use Rattle.bincode_base.specs.declared.error.DecodeError.{DecodeError}
use Rattle.bincode_spec.specs.Decoding.{IsRead, WordRead, AcceptsAll, ReportsFault, EnforcesLimit}
use Rattle.bincode_spec.specs.Device.{Takes}
use Rattle.bincode_spec.specs.Format.{Format}
use Rattle.bincode_spec.specs.Meaning.{Meaning}

pub relayed : {R S T : Type 0} (F : Format Meaning) (bound : Option ℕ) (end_error : ℕ → DecodeError → Type 0) (Excused Loses : DecodeError → Type 0) (DecodesTo : Meaning → T → Type 0)
    (result : Result T DecodeError) (is_known : R → Type 0) (remaining : R → List ℕ) (old new : R) (Tells : S → Type 0) (known : S → List ℕ) (before after : S) →
    IsRead is_known remaining end_error Excused Loses F bound DecodesTo result old new → (Tells before → is_known old × (remaining old ≡ known before)) → (is_known new → Tells after × (remaining new ≡ known after)) →
    IsRead Tells known end_error Excused Loses F bound DecodesTo result before after
relayed F bound end_error Excused Loses DecodesTo result is_known remaining old new Tells known before after read begin end =
    let ended = λ (t : Tells before). end (read.tells (begin t).0) in
    record {
      word = λ t. subst (λ l. IfOk result (λ v. WordRead F bound l (known after) (λ m. DecodesTo m v))) (begin t).1
          (subst (λ l. IfOk result (λ v. WordRead F bound (remaining old) l (λ m. DecodesTo m v))) (ended t).1 (read.word (begin t).0));
      found = λ t. subst (λ l. AcceptsAll F bound Excused l result) (begin t).1 (read.found (begin t).0);
      fault = λ t. subst (λ l. ReportsFault end_error F bound Excused l result) (begin t).1 (read.fault (begin t).0);
      limit = λ t. subst (λ l. EnforcesLimit F bound Excused l result) (begin t).1 (read.limit (begin t).0);
      left = λ t. subst (λ l. IfErr result (λ e. Loses e ⊎ Takes l (known after))) (begin t).1
          (subst (λ l. IfErr result (λ e. Loses e ⊎ Takes (remaining old) l)) (ended t).1 (read.left (begin t).0));
      tells = λ t. (ended t).0;
    }
