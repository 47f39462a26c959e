-- `Reads` of a whole, from `Reads` of what it is made of.
use Rattle.std.specs.Prelude.{◌≡◌, ℕ, ℤ, List, [], Option, Result, Err, IfOk, IfErr, refl}
use Rattle.std.specs.Borrow.{GName}
use Rattle.std.proofs.Common.{◌∙◌, ap, sym, arith}
use Rattle.std.proofs.lemmas.Result.{IfOk-weaker, IfErr-weaker}
use Rattle.bincode_base.specs.declared.error.DecodeError.{DecodeError}
use Rattle.bincode_spec.specs.Device.{DeviceErrors}
use Rattle.bincode_spec.specs.Layers.Pieces.{FillsBuffer}
use Rattle.bincode_spec.specs.Format.{Format, charge_then, map_format}
use Rattle.bincode_spec.specs.Layers.Reads.{ReadsWord}
use Rattle.bincode_spec.specs.Answer.{Answer, answer, Gave, Allows}
use Rattle.bincode_spec.specs.Layers.Claims.{ClaimSucceeds, ClaimFails, Charges}
use Rattle.bincode_spec.specs.Meaning.{Number}
use Rattle.bincode_base.specs.declared.error.DecodeError.TheVariants.{Memory}
use Rattle.bincode_spec.specs.Decoding.{Decodes, DecodeFailure, by_memory}
use Rattle.bincode_lemmas.specs.DecodingLaws.{charge_then-gave, charge_then-misread, map-gave, map-stops}
use Rattle.bincode_spec.specs.Layers.Claims.{OnlyCharged}
use Rattle.bincode_spec.specs.Layers.Values.{Reads, ReadsInteger}
use Rattle.bincode_decoder.proofs.Rooms.{claimed-grows, claimed-within, over-grows, whatever_given}

module _ {D A B T U : Type 0} {is_known : D → Type 0} {remaining : D → List ℕ} {charge failures : D → ℕ} {loans : D → List GName} {limit : Option ℕ}
    {end_error : ℕ → DecodeError → Type 0} {device : DeviceErrors} {G H : Type 0} {F : Format A} {decodes_to : A → T → Type 0} {charged : ℕ}
    {r : Result T DecodeError} {old new : D} where
  module _ {whole : Format B} {other : B → U → Type 0} {q : Result U DecodeError} where
    -- reading one format as another
    pub read-as : (is_known old → IfOk q (λ v. Decodes (λ m. other m v) (answer limit whole (remaining old) charged) (remaining new) (charge new))) →
        (is_known old → IfErr q (DecodeFailure end_error device H (answer limit whole (remaining old) charged) (failures old) (failures new) (remaining old) (remaining new) (charge new))) →
        (Allows limit charged → IfOk q (λ _. Allows limit (charge new))) →
        Reads is_known remaining charge failures loans limit end_error device G F decodes_to charged r old new → Reads is_known remaining charge failures loans limit end_error device H whole other charged q old new
    read-as h k w read = record { ok = h; err = k; failures_monotone = read.failures_monotone; tells = read.tells; charge_kept = read.charge_kept; within = w; same_loans = read.same_loans }

    -- and one after it
    pub read-after : {K C V : Type 0} {S : Format C} {next : C → V → Type 0} {p : Result V DecodeError} {end : D} →
        (is_known old → IfOk q (λ v. Decodes (λ m. other m v) (answer limit whole (remaining old) charged) (remaining end) (charge end))) →
        (is_known old → IfErr q (DecodeFailure end_error device H (answer limit whole (remaining old) charged) (failures old) (failures end) (remaining old) (remaining end) (charge end))) →
        (Allows limit charged → IfOk q (λ _. Allows limit (charge end))) →
        Reads is_known remaining charge failures loans limit end_error device G F decodes_to charged r old new →
        Reads is_known remaining charge failures loans limit end_error device K S next (charge new) p new end →
        Reads is_known remaining charge failures loans limit end_error device H whole other charged q old end
    read-after h k w first second = record {
      ok = h;
      err = k;
      failures_monotone = let a = first.failures_monotone in let b = second.failures_monotone in omega (arith, a, b);
      tells = λ known. second.tells (first.tells known);
      charge_kept = let a = first.charge_kept in let b = second.charge_kept in omega (arith, a, b);
      within = w;
      same_loans = second.same_loans ∙ first.same_loans;
    }

-- what is made of a value that was read
pub made-of : {A : Type 0} {P Q : A → Type 0} {a : Answer A} {remaining : List ℕ} {c : ℕ} → ((m : A) → P m → Q m) → Decodes P a remaining c → Decodes Q a remaining c
made-of h d = record { meaning = d.meaning; answer_is = d.answer_is; is_decoded = h d.meaning d.is_decoded }

-- the only value of an answer
pub exactly : {A : Type 0} {a : Answer A} {v : A} {remaining : List ℕ} {c : ℕ} → Decodes (λ n. n ≡ v) a remaining c → a ≡ Gave v remaining c
exactly {remaining = remaining} {c = c} d = d.answer_is ∙ ap (λ n. Gave n remaining c) d.is_decoded

module _ {D R C : Type 0} {is_known : D → Type 0} {remaining : D → List ℕ} {charge failures : D → ℕ} {reader_of : D → R} {context_of : D → C}
    {loans : D → List GName} {limit : Option ℕ} {end_error : ℕ → DecodeError → Type 0} {device : DeviceErrors} {old now : D}
    (kept : OnlyCharged is_known remaining failures reader_of context_of loans old now) where
  -- a claim passes the limit
  pub claim-passed : {A T G : Type 0} {F : Format A} {decodes_to : A → T → Type 0} {e : DecodeError} (n : ℕ) →
      ClaimFails limit (charge old) n (charge now) →
      DecodeFailure end_error device G (answer limit F (remaining old) (charge old)) (failures old) (failures now) (remaining old) (remaining now) (charge now) e →
      Reads is_known remaining charge failures loans limit end_error device G F decodes_to (charge old) (Err e) old now
  claim-passed n over stops = record {
    ok = λ known. tt;
    err = λ known. stops;
    failures_monotone = let e = kept.same_failures in omega (arith, e);
    tells = kept.tells;
    charge_kept = over-grows limit (charge old) n (charge now) over;
    within = λ _. tt;
    same_loans = kept.same_loans;
  }

  -- a claim succeeds, then the error is `Memory`
  pub charge-refused : {A T G : Type 0} {F : Format A} {decodes_to : A → T → Type 0} (n : ℕ) → ClaimSucceeds limit (charge old) n (charge now) → G →
      Reads is_known remaining charge failures loans limit end_error device G F decodes_to (charge old) (Err Memory) old now
  charge-refused n claim grows = record {
    ok = λ known. tt;
    err = λ known. by_memory grows refl ([], sym kept.same_remaining);
    failures_monotone = let e = kept.same_failures in omega (arith, e);
    tells = kept.tells;
    charge_kept = claimed-grows limit (charge old) n (charge now) claim;
    within = λ _. tt;
    same_loans = kept.same_loans;
  }

  -- a claim succeeds, then a word is read
  pub charge_then-reads : {A T : Type 0} {F : Format A} {mean : T → A} {r : Result T DecodeError} {new : D} (n : ℕ) →
      ClaimSucceeds limit (charge old) n (charge now) → ReadsWord is_known remaining failures loans end_error device F mean r now new → charge new ≡ charge now →
      Reads is_known remaining charge failures loans limit end_error device ⊥ (charge_then n F) (λ a v. a ≡ mean v) (charge old) r old new
  charge_then-reads {F = F} {mean = mean} {r = r} {new = new} n claim read still = record {
    ok = λ known. IfOk-weaker r _ _ (λ v h. record {
      meaning = mean v;
      answer_is = rw still
          (charge_then-gave limit n F (remaining old) (charge old) (charge now) (remaining now) (remaining new) (mean v) claim kept.same_remaining h);
      is_decoded = refl;
    }) (read.ok (kept.tells known));
    err = λ known. IfErr-weaker r _ _ (λ e h. charge_then-misread limit n F (remaining old) (charge old) end_error device ⊥ (charge now) (failures old) (failures now) (failures new) (remaining now)
        (remaining new) e still claim kept.same_remaining kept.same_failures h) (read.err (kept.tells known));
    failures_monotone = let e = kept.same_failures in let count = read.failures_monotone in omega (arith, e, count);
    tells = λ known. read.tells (kept.tells known);
    charge_kept = rw still (claimed-grows limit (charge old) n (charge now) claim);
    within = λ _. whatever_given r (rw still (claimed-within limit (charge old) n (charge now) claim));
    same_loans = read.same_loans ∙ kept.same_loans;
  }

-- what a reader fills is filled through its lender
pub lent-fills :
    {R S : Type 0} {is_known : R → Type 0} {remaining : R → List ℕ} {failures : R → ℕ} {loans : R → List GName} {is_known' : S → Type 0} {remaining' : S → List ℕ}
    {failures' : S → ℕ} {loans' : S → List GName} {end_error : ℕ → DecodeError → Type 0} {device : DeviceErrors} {bytes filled : List ℕ}
    {r : Result (Unit {0}) DecodeError} {lender after : S} {before new : R} →
    (is_known' lender → is_known before) → remaining before ≡ remaining' lender → failures before ≡ failures' lender → (is_known new → is_known' after) →
    remaining' after ≡ remaining new → failures' after ≡ failures new → (loans new ≡ loans before → loans' after ≡ loans' lender) →
    FillsBuffer is_known remaining failures loans end_error device bytes filled r before new → FillsBuffer is_known' remaining' failures' loans' end_error device bytes filled r lender after
lent-fills known left failed knows leaves fails placed fills = record {
  next = λ k. rw (← left, leaves) (fills.next (known k));
  why = λ k. rw (← left, ← failed, fails) (fills.why (known k));
  left = λ k. rw (← left, leaves) (fills.left (known k));
  failures_monotone = rw (← failed, fails) fills.failures_monotone;
  tells = λ k. knows (fills.tells (known k));
  same_loans = placed fills.same_loans;
}

-- reading a number reads its meaning
pub number-reads :
    {D A B : Type 0} {is_known : D → Type 0} {remaining : D → List ℕ} {charge failures : D → ℕ} {loans : D → List GName} {limit : Option ℕ}
    {end_error : ℕ → DecodeError → Type 0} {device : DeviceErrors} {F : Format A} {decodes_to : B → A → Type 0} {start : ℕ} {r : Result A DecodeError}
    {old new : D} (f : A → B) →
    ((v : A) → decodes_to (f v) v) →
    Reads is_known remaining charge failures loans limit end_error device ⊥ F (λ n v. n ≡ v) start r old new → Reads is_known remaining charge failures loans limit end_error device ⊥ (map_format f F) decodes_to start r old new
number-reads {limit = limit} {F = F} {r = r} f g read =
    read-as
    (λ known. IfOk-weaker r _ _ (λ v h. record { meaning = f v; answer_is = map-gave f limit F _ _ v _ _ (exactly h); is_decoded = g v }) (read.ok known))
    (λ known. IfErr-weaker r _ _ (λ e k. map-stops f _ _ ⊥ limit F _ _ _ _ _ e k) (read.err known))
    read.within
    read

-- so an integer is read as its meaning
pub integer-reads :
    {D A : Type 0} {is_known : D → Type 0} {remaining : D → List ℕ} {charge failures : D → ℕ} {loans : D → List GName} {limit : Option ℕ}
    {end_error : ℕ → DecodeError → Type 0} {device : DeviceErrors} {F : Format A} {width : ℕ} {r : Result A DecodeError} {old new : D} (integer : A → ℤ) →
    Reads is_known remaining charge failures loans limit end_error device ⊥ F (λ n v. n ≡ v) (charge old) r old new → Charges limit (charge old) width (charge new) →
    ReadsInteger is_known remaining charge failures loans limit end_error device F integer width r old new
integer-reads integer read charges = record { reads = read; means = number-reads (λ k. Number (integer k)) (λ v. refl) read; charges = charges }
