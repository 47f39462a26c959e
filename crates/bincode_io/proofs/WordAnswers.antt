-- `ReadsWord` of a whole, from that of its parts.
use Rattle.std.specs.Prelude.{◌≡◌, ℕ, List, [], Result, Ok, Err, IfOk, IfErr}
use Rattle.std.specs.Borrow.{GName}
use Rattle.std.proofs.Common.{◌∙◌, arith}
use Rattle.bincode_base.specs.declared.error.DecodeError.{DecodeError}
use Rattle.bincode_spec.specs.Device.{DeviceErrors}
use Rattle.bincode_spec.specs.Fault.{Fault}
use Rattle.bincode_spec.specs.Format.{Format, Took, Failed}
use Rattle.bincode_spec.specs.Layers.Reads.{ReadFailure, ReadsWord}
use Rattle.bincode_io.proofs.Words.{misreads-more}

module _ {R A B T U : Type 0} {is_known : R → Type 0} {remaining : R → List ℕ} {failures : R → ℕ} {loans : R → List GName} {end_error : ℕ → DecodeError → Type 0}
    {device : DeviceErrors} {F : Format A} {G : Format B} {f : T → A} {g : U → B} {old : R} where
  -- reading one format as another
  pub word-as : {r : Result T DecodeError} {q : Result U DecodeError} {new : R} →
      (is_known old → IfOk q (λ v. G.read (remaining old) ≡ Took (g v) (remaining new) [])) →
      (is_known old → IfErr q (ReadFailure end_error device (G.read (remaining old)) (failures old) (failures new) (remaining old) (remaining new))) →
      ReadsWord is_known remaining failures loans end_error device F f r old new → ReadsWord is_known remaining failures loans end_error device G g q old new
  word-as ok err read = record { ok = ok; err = err; failures_monotone = read.failures_monotone; tells = read.tells; same_loans = read.same_loans }

  -- the fault of a part is that of the whole
  pub part-fails : {e : DecodeError} {new : R} → ((why : Fault) → F.read (remaining old) ≡ Failed why [] → G.read (remaining old) ≡ Failed why []) →
      ReadsWord is_known remaining failures loans end_error device F f (Err e) old new → ReadsWord is_known remaining failures loans end_error device G g (Err e) old new
  part-fails {e} {new} same read =
      word-as (λ known. tt) (λ known. misreads-more end_error device (F.read (remaining old)) (G.read (remaining old)) (failures old) (failures new) (remaining old) (remaining new) e same (read.err known)) read

  -- and what a part gives, the whole gives
  pub part-gives : {v : T} {u : U} {new : R} → (F.read (remaining old) ≡ Took (f v) (remaining new) [] → G.read (remaining old) ≡ Took (g u) (remaining new) []) →
      ReadsWord is_known remaining failures loans end_error device F f (Ok v) old new → ReadsWord is_known remaining failures loans end_error device G g (Ok u) old new
  part-gives same read = word-as (λ known. same (read.ok known)) (λ known. tt) read

  -- what is read after a part
  pub after-part :
      {C V : Type 0} {H : Format C} {h : V → C} {r : Result T DecodeError} {p : Result V DecodeError} {q : Result U DecodeError} {middle new : R} →
      (is_known old → IfOk q (λ v. G.read (remaining old) ≡ Took (g v) (remaining new) [])) →
      (is_known old → IfErr q (ReadFailure end_error device (G.read (remaining old)) (failures old) (failures new) (remaining old) (remaining new))) →
      ReadsWord is_known remaining failures loans end_error device F f r old middle → ReadsWord is_known remaining failures loans end_error device H h p middle new →
      ReadsWord is_known remaining failures loans end_error device G g q old new
  after-part ok err first next = record {
    ok = ok;
    err = err;
    failures_monotone = let a = first.failures_monotone in let b = next.failures_monotone in omega (arith, a, b);
    tells = λ known. next.tells (first.tells known);
    same_loans = next.same_loans ∙ first.same_loans;
  }

-- what is read from a reader is read through its lender
pub lent-word :
    {R S A T : Type 0} {is_known : R → Type 0} {remaining : R → List ℕ} {failures : R → ℕ} {loans : R → List GName} {is_known' : S → Type 0} {remaining' : S → List ℕ}
    {failures' : S → ℕ} {loans' : S → List GName} {end_error : ℕ → DecodeError → Type 0} {device : DeviceErrors} {F : Format A} {f : T → A}
    {r : Result T DecodeError} {lender after : S} {before new : R} →
    (is_known' lender → is_known before) → remaining before ≡ remaining' lender → failures before ≡ failures' lender → (is_known new → is_known' after) →
    remaining' after ≡ remaining new → failures' after ≡ failures new → (loans new ≡ loans before → loans' after ≡ loans' lender) →
    ReadsWord is_known remaining failures loans end_error device F f r before new → ReadsWord is_known' remaining' failures' loans' end_error device F f r lender after
lent-word known left failed knows leaves fails placed read = record {
  ok = λ k. rw (← left, leaves) (read.ok (known k));
  err = λ k. rw (← left, ← failed, leaves, fails) (read.err (known k));
  failures_monotone = rw (← failed, fails) read.failures_monotone;
  tells = λ k. knows (read.tells (known k));
  same_loans = placed read.same_loans;
}
