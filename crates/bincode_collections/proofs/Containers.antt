-- Values after the claim for them.
use Rattle.std.specs.Prelude.{◌≡◌, ℕ, ◌*◌, List, Option, Result, Ok, Err, IfOk, refl}
use Rattle.std.specs.Borrow.{GName}
use Rattle.std.proofs.Common.{◌∙◌, arith}
use Rattle.std.proofs.lemmas.Result.{IfOk-weaker, IfErr-weaker}
use Rattle.bincode_base.specs.declared.error.DecodeError.{DecodeError}
use Rattle.bincode_base.specs.declared.error.IntegerType.TheVariants as integers
use Rattle.bincode_base.specs.Setting.{Setting}
use Rattle.bincode_spec.specs.Device.{DeviceErrors}
use Rattle.bincode_spec.specs.Integers.{Eight}
use Rattle.bincode_spec.specs.Format.{Format}
use Rattle.bincode_spec.specs.Meaning.{Meaning}
use Rattle.bincode_spec.specs.Collections.{Makes, IsMadeOf}
use Rattle.bincode_spec.specs.Words.{len, array, list}
use Rattle.bincode_spec.specs.Layers.Claims.{ClaimSucceeds}
use Rattle.bincode_spec.specs.Layers.Claims.{OnlyCharged}
use Rattle.bincode_spec.specs.Run.{IsListOf}
use Rattle.bincode_spec.specs.Layers.Values.{Reads, RunRead}
use Rattle.bincode_lemmas.specs.IntegerLaws.{unsigned-lawful}
use Rattle.bincode_lemmas.specs.RunLaws.{array-decodes, array-stops}
use Rattle.bincode_decoder.proofs.Rooms.{claimed-held, claimed-within}
use Rattle.bincode_decoder.proofs.ReadAnswers.{read-as, made-of}
use Rattle.bincode_decoder.proofs.PartAnswers.{first-stops, next-reads}

-- two facts of a value
pub both_ok : {T E : Type 0} (r : Result T E) (P Q S : T → Type 0) → ((v : T) → P v → Q v → S v) → IfOk r P → IfOk r Q → IfOk r S
both_ok (Ok v) P Q S f p q = f v p q
both_ok (Err e) P Q S f p q = tt

-- what was read, with a fact about it
pub reads-with :
    {D A T : Type 0} {is_known : D → Type 0} {remaining : D → List ℕ} {charge failures : D → ℕ} {loans : D → List GName} {limit : Option ℕ}
    {end_error : ℕ → DecodeError → Type 0} {device : DeviceErrors} {may_allocate : Type 0} {format : Format A} {decodes_to other : A → T → Type 0} {start : ℕ} {P : T → Type 0}
    (r : Result T DecodeError) {old new : D} →
    ((m : A) (v : T) → decodes_to m v → P v → other m v) → IfOk r P →
    Reads is_known remaining charge failures loans limit end_error device may_allocate format decodes_to start r old new →
    Reads is_known remaining charge failures loans limit end_error device may_allocate format other start r old new
reads-with r both fact read = read-as (λ known. both_ok r _ _ _ (λ v p d. made-of (λ m k. both m v k p) d) fact (read.ok known)) read.err read.within read

-- a run that is read after the claim for it is an array
pub array-reads :
    {D R C A T : Type 0} {is_known : D → Type 0} {remaining : D → List ℕ} {charge failures : D → ℕ} {reader_of : D → R} {context_of : D → C} {loans : D → List GName}
    {limit : Option ℕ} {end_error : ℕ → DecodeError → Type 0} {device : DeviceErrors} {may_allocate : Type 0} {claim : ℕ} {format : Format Meaning}
    {decodes_to : Meaning → T → Type 0} {n : ℕ} {values : A → List T} {r : Result A DecodeError} {old now new : D} →
    OnlyCharged is_known remaining failures reader_of context_of loans old now → ClaimSucceeds limit (charge old) (n * claim) (charge now) →
    RunRead is_known remaining charge failures loans limit end_error device may_allocate claim format decodes_to n values r now new →
    Reads is_known remaining charge failures loans limit end_error device may_allocate (array n claim format) (λ m v. IsListOf (λ x k. decodes_to k x) (values v) m) (charge old) r old new
array-reads {remaining = remaining} {charge = charge} {failures = failures} {limit = limit} {end_error = end_error} {device = device} {may_allocate = may_allocate} {claim = claim} {format = format}
    {n = n} {r = r} {old = old} {now = now} {new = new} kept h run = record {
      ok = λ known. IfOk-weaker r _ _ (λ v d. array-decodes limit claim format n (remaining old) (charge old) (charge now) _ (remaining new) (charge new) h (rw kept.same_remaining at d))
          (run.ok (kept.tells known));
      err = λ known. IfErr-weaker r _ _ (λ e s. array-stops limit claim format n (remaining old) (charge old) (charge now) end_error device may_allocate (failures old) (failures new) (remaining new) e h
          (rw (kept.same_remaining, kept.same_failures) at s)) (run.err (kept.tells known));
      failures_monotone = let e = kept.same_failures in let c = run.failures_monotone in omega (arith, e, c);
      tells = λ known. run.tells (kept.tells known);
      charge_kept = claimed-held limit (charge old) (n * claim) (charge now) (charge new) h run.charge_kept;
      within = λ _. run.within (claimed-within limit (charge old) (n * claim) (charge now) h);
      same_loans = run.same_loans ∙ kept.same_loans;
    }

-- and so is what is made of its values
pub made-reads :
    {D R C A T : Type 0} {is_known : D → Type 0} {remaining : D → List ℕ} {charge failures : D → ℕ} {reader_of : D → R} {context_of : D → C} {loans : D → List GName}
    {limit : Option ℕ} {end_error : ℕ → DecodeError → Type 0} {device : DeviceErrors} {may_allocate : Type 0} {claim : ℕ} {format : Format Meaning}
    {decodes_to : Meaning → T → Type 0} {n : ℕ} {r : Result A DecodeError} {old now new : D} (Making : Makes T) (values : A → List T) →
    OnlyCharged is_known remaining failures reader_of context_of loans old now → ClaimSucceeds limit (charge old) (n * claim) (charge now) →
    (items : List T) → IfOk r (λ v. Making items (values v)) →
    RunRead is_known remaining charge failures loans limit end_error device may_allocate claim format decodes_to n (λ _. items) r now new →
    Reads is_known remaining charge failures loans limit end_error device may_allocate (array n claim format) (λ m v. IsMadeOf Making (λ x k. decodes_to k x) (values v) m) (charge old) r old new
made-reads {r = r} Making values kept h items made run =
    let read = array-reads kept h run in
    read-as (λ known. both_ok r _ _ _ (λ v p d. made-of (λ m k. (items, p, k)) d) made (read.ok known)) read.err read.within read

module _ {D A : Type 0} {is_known : D → Type 0} {remaining : D → List ℕ} {charge failures : D → ℕ} {loans : D → List GName} {limit : Option ℕ}
    {end_error : ℕ → DecodeError → Type 0} {device : DeviceErrors} {may_allocate : Type 0} (s : Setting) (claim : ℕ) (format : Format Meaning) {decodes_to : Meaning → A → Type 0} {start : ℕ} {old : D} where
  -- if decoding the length fails, so does the list
  pub length-stops : {e : DecodeError} {new : D} →
      Reads is_known remaining charge failures loans limit end_error device ⊥ (len s) (λ n v. n ≡ v) start (Err e) old new →
      Reads is_known remaining charge failures loans limit end_error device may_allocate (list s claim format) decodes_to start (Err e) old new
  length-stops read = first-stops (len s) (λ n. array n claim format) (λ none. absurd none) read

  -- after the length comes an array
  pub length-reads : {n : ℕ} {r : Result A DecodeError} {middle new : D} →
      Reads is_known remaining charge failures loans limit end_error device ⊥ (len s) (λ n v. n ≡ v) start (Ok n) old middle →
      Reads is_known remaining charge failures loans limit end_error device may_allocate (array n claim format) decodes_to (charge middle) r middle new →
      Reads is_known remaining charge failures loans limit end_error device may_allocate (list s claim format) decodes_to start r old new
  length-reads length values = next-reads (len s) (λ n. array n claim format) (unsigned-lawful integers.U64 8 s (Eight refl)) length values
