-- Decoding parts in turn: a first part, then what follows it.
use Rattle.std.specs.Prelude.{◌≡◌, ℕ, List, Option, Result, Ok, Err}
use Rattle.std.specs.Borrow.{GName}
use Rattle.std.proofs.Common.{◌∙◌}
use Rattle.std.proofs.lemmas.Result.{IfOk-weaker, IfErr-weaker}
use Rattle.bincode_base.specs.declared.error.DecodeError.{DecodeError}
use Rattle.bincode_spec.specs.Fault.{Fault, Tells}
use Rattle.bincode_spec.specs.Device.{DeviceErrors}
use Rattle.bincode_spec.specs.Format.{Format, ◌>>=◌, from_result}
use Rattle.bincode_spec.specs.Layers.Laws.{IsLawful}
use Rattle.bincode_spec.specs.Decoding.{by_fault}
use Rattle.bincode_spec.specs.Layers.Values.{Reads}
use Rattle.bincode_lemmas.specs.DecodingLaws.{answer-next, stops-first, stops-next, stops-besides, from_result-gave, from_result-refused, gave-takes}
use Rattle.bincode_decoder.proofs.ReadAnswers.{read-as, read-after, exactly}

-- `Memory` may come for more reasons
pub reads-besides :
    {D A T : Type 0} {is_known : D → Type 0} {remaining : D → List ℕ} {charge failures : D → ℕ} {loans : D → List GName} {limit : Option ℕ}
    {end_error : ℕ → DecodeError → Type 0} {device : DeviceErrors} {G H : Type 0} {F : Format A} {decodes_to : A → T → Type 0} {start : ℕ} (r : Result T DecodeError)
    {old new : D} →
    (G → H) →
    Reads is_known remaining charge failures loans limit end_error device G F decodes_to start r old new → Reads is_known remaining charge failures loans limit end_error device H F decodes_to start r old new
reads-besides {limit = limit} {end_error = end_error} {device = device} {G = G} {H = H} r grow read =
    read-as read.ok (λ known. IfErr-weaker r _ _ (λ e h. stops-besides end_error device G H grow _ _ _ _ _ e h) (read.err known)) read.within read

module _ {D A B T U : Type 0} {is_known : D → Type 0} {remaining : D → List ℕ} {charge failures : D → ℕ} {loans : D → List GName} {limit : Option ℕ}
    {end_error : ℕ → DecodeError → Type 0} {device : DeviceErrors} {G H : Type 0} (F : Format A) (S : A → Format B) {start : ℕ} {old : D}
    {whole : B → U → Type 0} where
  -- if decoding the first part fails, so does the whole
  pub first-stops : {decodes_to : A → T → Type 0} {e : DecodeError} {new : D} → (G → H) →
      Reads is_known remaining charge failures loans limit end_error device G F decodes_to start (Err e) old new →
      Reads is_known remaining charge failures loans limit end_error device H (F >>= S) whole start (Err e) old new
  first-stops {e = e} grow read = read-as (λ known. tt) (λ known. stops-first end_error device G H grow limit F S _ _ _ _ _ e (read.err known)) (λ _. tt) read

  -- what follows a part that was read
  pub next-reads : {mean : T → A} {v : T} {r : Result U DecodeError} {middle end : D} → IsLawful F →
      Reads is_known remaining charge failures loans limit end_error device G F (λ m w. m ≡ mean w) start (Ok v) old middle →
      Reads is_known remaining charge failures loans limit end_error device H (S (mean v)) whole (charge middle) r middle end →
      Reads is_known remaining charge failures loans limit end_error device H (F >>= S) whole start r old end
  next-reads {mean = mean} {v = v} {r = r} {middle = middle} {end = end} lawful first second =
      read-after
      (λ known. IfOk-weaker r _ _ (λ w d. record {
        meaning = d.meaning;
        answer_is = answer-next limit F S (remaining old) start (mean v) (remaining middle) (charge middle) (exactly (first.ok known)) ∙ d.answer_is;
        is_decoded = d.is_decoded;
      }) (second.ok (first.tells known)))
      (λ known. IfErr-weaker r _ _ (λ e h. stops-next end_error device H H (λ k. k) limit F S lawful (remaining old) start (failures old) (failures middle) (failures end) (mean v) (remaining middle)
      (remaining end) (charge middle) e (exactly (first.ok known)) first.failures_monotone h) (second.err (first.tells known)))
      (λ a. second.within (first.within a))
      first second

module _ {D A B T U : Type 0} {is_known : D → Type 0} {remaining : D → List ℕ} {charge failures : D → ℕ} {loans : D → List GName} {limit : Option ℕ}
    {end_error : ℕ → DecodeError → Type 0} {device : DeviceErrors} {G : Type 0} {F : Format A} (test : A → Result B Fault) {start : ℕ} {old new : D}
    {whole : B → U → Type 0} {mean : T → A} {v : T} (read : Reads is_known remaining charge failures loans limit end_error device G F (λ m w. m ≡ mean w) start (Ok v) old new) where
  -- what was read passes a test
  pub test-passed : (b : B) (u : U) → test (mean v) ≡ Ok b → whole b u → Reads is_known remaining charge failures loans limit end_error device G (F >>= λ a. from_result (test a)) whole start (Ok u) old new
  test-passed b u h decodes_to =
      read-as
      (λ known. record { meaning = b; answer_is = from_result-gave test limit F (remaining old) start (mean v) (remaining new) (charge new) b (exactly (read.ok known)) h; is_decoded = decodes_to })
      (λ known. tt)
      read.within
      read

  -- it fails it
  pub test-failed : IsLawful F → (why : Fault) (e : DecodeError) → test (mean v) ≡ Err why → Tells end_error why e →
      Reads is_known remaining charge failures loans limit end_error device G (F >>= λ a. from_result (test a)) whole start (Err e) old new
  test-failed lawful why e h tells =
      read-as
      (λ known. tt)
      (λ known. by_fault why (from_result-refused test limit F (remaining old) start (mean v) (remaining new) (charge new) why (exactly (read.ok known)) h) tells
      (gave-takes limit F lawful (remaining old) start (mean v) (remaining new) (charge new) (exactly (read.ok known))))
      (λ _. tt)
      read
