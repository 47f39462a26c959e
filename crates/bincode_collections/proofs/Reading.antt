-- Decoding a run, value by value.
use Rattle.std.specs.Prelude.{◌≡◌, ℕ, suc, ◌+◌, ◌-◌, ◌*◌, ◌<◌, ◌≤◌, List, [], ◌∷◌, ◌++◌, Option, Result, Ok, Err, refl}
use Rattle.std.specs.Borrow.{GName}
use Rattle.std.proofs.Common.{◌∙◌, arith}
use Rattle.bincode_base.specs.declared.error.DecodeError.{DecodeError}
use Rattle.bincode_spec.specs.Device.{DeviceErrors}
use Rattle.bincode_spec.specs.Format.{Format, elements}
use Rattle.bincode_spec.specs.Layers.Laws.{IsLawful, IsBalanced}
use Rattle.bincode_spec.specs.Meaning.{Meaning, list_meaning}
use Rattle.bincode_spec.specs.Answer.{answer, Allows, after_release}
use Rattle.bincode_lemmas.specs.DecodingLaws.{stops-besides}
use Rattle.bincode_spec.specs.Run.{IsListOf}
use Rattle.bincode_spec.specs.Layers.Releases.{CanRelease, ReleasesAtMost}
use Rattle.bincode_lemmas.specs.RunLaws.{ReadSoFar, none-read, one-more, one_stops, all-read, one-releases, others-release, held-none, held-more, is_list-push}
use Rattle.bincode_spec.specs.Layers.Values.{Reads, RunRead}
use Rattle.bincode_decoder.proofs.Rooms.{held-within, unclaimed-within}

-- of a run of `count` values these were read, and the claims of the others are still reserved
pub record RunSoFar {D T : Type 0} (is_known : D → Type 0) (remaining : D → List ℕ) (charge failures : D → ℕ) (loans : D → List GName) (limit : Option ℕ)
    (claim : ℕ) (format : Format Meaning) (decodes_to : Meaning → T → Type 0) (count read : ℕ) (vs : List T) (old now : D) : Type 0 where
  pub known : is_known old →
      is_known now × (ms : List Meaning) × ReadSoFar limit claim format (answer limit (elements count claim format) (remaining old) (charge old)) (remaining old) ms (count - read) (remaining now)
      (charge now) × IsListOf (λ x m. decodes_to m x) vs (list_meaning ms)
  pub reserved : CanRelease limit (charge now) ((count - read) * claim)
  pub charge_kept : ReleasesAtMost limit (read * claim) (charge old) (charge now)
  pub within : Allows limit (charge old) → Allows limit (charge now)
  pub failures_monotone : failures old ≤ failures now
  pub same_loans : loans now ≡ loans old

-- one value less is left
one_fewer : (count read : ℕ) → read < count → count - read ≡ suc (count - (read + 1))
one_fewer count read l = omega (arith, l)

module _ {D T : Type 0} {is_known : D → Type 0} {remaining : D → List ℕ} {charge failures : D → ℕ} {loans : D → List GName} {limit : Option ℕ} {claim : ℕ}
    {format : Format Meaning} {decodes_to : Meaning → T → Type 0} {count : ℕ} {old : D} where
  pub none-so_far : CanRelease limit (charge old) (count * claim) → RunSoFar is_known remaining charge failures loans limit claim format decodes_to count 0 [] old old
  none-so_far h =
      let e : count - 0 ≡ count = omega arith in
      record {
        known = λ k. (k, [], rw e (none-read limit claim format count (remaining old) (charge old) h), refl);
        reserved = rw e h;
        charge_kept = held-none limit claim (charge old);
        within = λ within. within;
        failures_monotone = omega arith;
        same_loans = refl;
      }

  module _ {read : ℕ} {vs : List T} {now : D} (h : RunSoFar is_known remaining charge failures loans limit claim format decodes_to count read vs old now) where
    pub all-so_far : {A : Type 0} {end_error : ℕ → DecodeError → Type 0} {device : DeviceErrors} {may_allocate : Type 0} {values : A → List T} {v : A} →
        read ≡ count → values v ≡ vs → RunRead is_known remaining charge failures loans limit end_error device may_allocate claim format decodes_to count values (Ok v) old now
    all-so_far r e =
        let n : count - read ≡ 0 = omega (arith, r) in
        record {
          ok = λ k.
              let s = h.known k in
              record {
                meaning = s.1;
                answer_is = all-read limit claim format _ (remaining old) s.1 (remaining now) (charge now) (rw n at s.2);
                is_decoded = rw e s.3;
              };
          err = λ k. tt;
          failures_monotone = h.failures_monotone;
          tells = λ k. (h.known k).0;
          charge_kept = rw r at h.charge_kept;
          within = h.within;
          same_loans = h.same_loans;
        }

    module _ (l : read < count) where
      pub next-releases : CanRelease limit (charge now) claim
      next-releases = one-releases limit (charge now) claim (count - (read + 1)) (rw (one_fewer count read l) at h.reserved)

      module _ {end_error : ℕ → DecodeError → Type 0} {device : DeviceErrors} {may_allocate : Type 0} {after : D} where
        pub next-so_far : IsLawful format → IsBalanced format → {v : T} {ws : List T} → ws ≡ vs ++ v ∷ [] →
            Reads is_known remaining charge failures loans limit end_error device may_allocate format decodes_to (after_release limit (charge now) claim) (Ok v) now after →
            RunSoFar is_known remaining charge failures loans limit claim format decodes_to count (read + 1) ws old after
        next-so_far f b {v = v} e r = record {
          known = λ k.
              let s = h.known k in
              let p = r.ok s.0 in (
                r.tells s.0,
                s.1 ++ p.meaning ∷ [],
                one-more limit claim format _ (remaining old) s.1 f b (count - (read + 1)) (remaining now) (charge now) p.meaning (remaining after) (charge after) (rw (one_fewer count read l) at s.2) p.answer_is,
                rw e (is_list-push _ vs s.1 v p.meaning s.3 p.is_decoded),
              );
          reserved = others-release limit (charge now) claim (count - (read + 1)) (charge after) (rw (one_fewer count read l) at h.reserved) r.charge_kept;
          charge_kept = held-more limit claim read (charge old) (charge now) (charge after) h.charge_kept r.charge_kept;
          within = λ within. r.within (unclaimed-within limit (charge now) claim (h.within within));
          failures_monotone = let a = h.failures_monotone in let c = r.failures_monotone in omega (arith, a, c);
          same_loans = r.same_loans ∙ h.same_loans;
        }

        pub stops-so_far : {A H : Type 0} {values : A → List T} {e : DecodeError} → (may_allocate → H) →
            Reads is_known remaining charge failures loans limit end_error device may_allocate format decodes_to (after_release limit (charge now) claim) (Err e) now after →
            RunRead is_known remaining charge failures loans limit end_error device H claim format decodes_to count values (Err e) old after
        stops-so_far {H = H} {e = e} widen r = record {
          ok = λ k. tt;
          err = λ k.
              let s = h.known k in
              one_stops limit claim format _ (remaining old) s.1 end_error device H (count - (read + 1)) (remaining now) (charge now) (failures old) (failures now) (failures after)
              (remaining after) e h.failures_monotone (rw (one_fewer count read l) at s.2)
              (stops-besides _ _ _ _ widen _ _ _ _ _ e (r.err s.0));
          failures_monotone = let a = h.failures_monotone in let c = r.failures_monotone in omega (arith, a, c);
          tells = λ k. r.tells (h.known k).0;
          charge_kept = held-within limit claim (read + 1) count (charge old) (charge after) (omega (arith, l)) (held-more limit claim read (charge old) (charge now) (charge after) h.charge_kept r.charge_kept);
          within = λ _. tt;
          same_loans = r.same_loans ∙ h.same_loans;
        }

-- `Memory` may come for more reasons, and the result is another value with the same items
pub read-besides :
    {D A B T : Type 0} {is_known : D → Type 0} {remaining : D → List ℕ} {charge failures : D → ℕ} {loans : D → List GName} {limit : Option ℕ}
    {end_error : ℕ → DecodeError → Type 0} {device : DeviceErrors} {G H : Type 0} {claim : ℕ} {format : Format Meaning} {decodes_to : Meaning → T → Type 0}
    {n m : ℕ} {values : A → List T} {others : B → List T} {e : DecodeError} {old new : D} →
    n ≡ m → (G → H) →
    RunRead is_known remaining charge failures loans limit end_error device G claim format decodes_to n values (Err e) old new →
    RunRead is_known remaining charge failures loans limit end_error device H claim format decodes_to m others (Err e) old new
read-besides k widen r = record {
  ok = λ known. tt;
  err = λ known. stops-besides _ _ _ _ widen _ _ _ _ _ _ (rw k at (r.err known));
  failures_monotone = r.failures_monotone;
  tells = r.tells;
  charge_kept = rw k at r.charge_kept;
  within = λ _. tt;
  same_loans = r.same_loans;
}

pub read-of :
    {D A B T : Type 0} {is_known : D → Type 0} {remaining : D → List ℕ} {charge failures : D → ℕ} {loans : D → List GName} {limit : Option ℕ}
    {end_error : ℕ → DecodeError → Type 0} {device : DeviceErrors} {G H : Type 0} {claim : ℕ} {format : Format Meaning} {decodes_to : Meaning → T → Type 0}
    {n m : ℕ} {values : A → List T} {others : B → List T} {v : A} {w : B} {old new : D} →
    n ≡ m → others w ≡ values v →
    RunRead is_known remaining charge failures loans limit end_error device G claim format decodes_to n values (Ok v) old new →
    RunRead is_known remaining charge failures loans limit end_error device H claim format decodes_to m others (Ok w) old new
read-of k same r = record {
  ok = λ known. rw same (rw k at (r.ok known));
  err = λ known. tt;
  failures_monotone = r.failures_monotone;
  tells = r.tells;
  charge_kept = rw k at r.charge_kept;
  within = r.within;
  same_loans = r.same_loans;
}

-- `Memory` may come for more reasons
pub read-widened :
    {D A T : Type 0} {is_known : D → Type 0} {remaining : D → List ℕ} {charge failures : D → ℕ} {loans : D → List GName} {limit : Option ℕ}
    {end_error : ℕ → DecodeError → Type 0} {device : DeviceErrors} {G H : Type 0} {claim : ℕ} {format : Format Meaning} {decodes_to : Meaning → T → Type 0}
    {n : ℕ} {values : A → List T} (result : Result A DecodeError) {old new : D} →
    (G → H) →
    RunRead is_known remaining charge failures loans limit end_error device G claim format decodes_to n values result old new →
    RunRead is_known remaining charge failures loans limit end_error device H claim format decodes_to n values result old new
read-widened (Ok v) widen r = read-of refl refl r
read-widened (Err e) widen r = read-besides refl widen r
