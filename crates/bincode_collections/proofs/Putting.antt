-- Putting items into a collection, one by one.
use Rattle.std.specs.Prelude.{◌≡◌, ℕ, ◌*◌, ◌≤◌, List, [], ◌∷◌, ◌++◌, Option, Result, Ok, Err, MatchResult, refl}
use Rattle.std.specs.Borrow.{GName}
use Rattle.std.specs.BTreeMap.{insert_entry}
use Rattle.std.specs.BTreeSet.{insert_key}
use Rattle.std.specs.declared.cmp.Ordering.{Ordering}
use Rattle.std.proofs.Common.{arith}
use Rattle.bincode_base.specs.declared.error.DecodeError.{DecodeError}
use Rattle.bincode_base.specs.declared.error.DecodeError.TheVariants.{Memory}
use Rattle.bincode_spec.specs.Collections.{put_keys, put_entries}
use Rattle.bincode_spec.specs.Decoding.{by_memory}
use Rattle.bincode_spec.specs.Device.{DeviceErrors}
use Rattle.bincode_spec.specs.Format.{Format}
use Rattle.bincode_spec.specs.Meaning.{Meaning}
use Rattle.bincode_spec.specs.Layers.Releases.{CanRelease}
use Rattle.bincode_spec.specs.Layers.Values.{RunRead}
use Rattle.bincode_decoder.proofs.Rooms.{held-within}
use Rattle.bincode_collections.proofs.Reading.{RunSoFar, none-so_far, all-so_far}

-- one more key is inserted after those before it,
pub keys-push : {K : Type 0} (cmp : K → K → Ordering) (keys items : List K) (k : K) → put_keys cmp keys (items ++ k ∷ []) ≡ insert_key cmp (put_keys cmp keys items) k
keys-push cmp keys [] k = refl
keys-push cmp keys (item ∷ items) k = keys-push cmp (insert_key cmp keys item) items k

-- and one entry more
pub entries-push : {K V : Type 0} (cmp : K → K → Ordering) (entries items : List (K × V)) (k : K) (v : V) →
    put_entries cmp entries (items ++ (k, v) ∷ []) ≡ insert_entry cmp (put_entries cmp entries items) k v
entries-push cmp entries [] k v = refl
entries-push cmp entries (item ∷ items) k v = entries-push cmp (insert_entry cmp entries item.0 item.1) items k v

-- an allocation for what was read is refused
pub refused-so_far :
    {D A T : Type 0} {is_known : D → Type 0} {remaining : D → List ℕ} {charge failures : D → ℕ} {loans : D → List GName} {limit : Option ℕ} {claim : ℕ}
    {format : Format Meaning} {decodes_to : Meaning → T → Type 0} {count read : ℕ} {vs : List T} {old now : D} {end_error : ℕ → DecodeError → Type 0}
    {device : DeviceErrors} {may_allocate : Type 0} {values : A → List T} → may_allocate →
    RunSoFar is_known remaining charge failures loans limit claim format decodes_to count read vs old now → read ≤ count →
    RunRead is_known remaining charge failures loans limit end_error device may_allocate claim format decodes_to count values (Err Memory) old now
refused-so_far {charge = charge} {limit = limit} {claim = claim} {count = count} {read = read} {old = old} {now = now} room h l = record {
  ok = λ k. tt;
  err = λ k. by_memory room refl (h.known k).2.is_after;
  failures_monotone = h.failures_monotone;
  tells = λ k. (h.known k).0;
  charge_kept = held-within limit claim read count (charge old) (charge now) l h.charge_kept;
  within = λ _. tt;
  same_loans = h.same_loans;
}

module _ {D T : Type 0} {is_known : D → Type 0} {remaining : D → List ℕ} {charge failures : D → ℕ} {loans : D → List GName} {limit : Option ℕ} {claim : ℕ}
    {format : Format Meaning} {decodes_to : Meaning → T → Type 0} {count : ℕ} {vs : List T} {old now : D} where
  -- nothing was read yet, and the collection was made: the decoder may have another context
  pub begun-so_far : (is_known old → is_known now) → remaining now ≡ remaining old → charge now ≡ charge old → failures now ≡ failures old → loans now ≡ loans old →
      CanRelease limit (charge old) (count * claim) → vs ≡ [] → RunSoFar is_known remaining charge failures loans limit claim format decodes_to count 0 vs old now
  begun-so_far tells same_remaining same_charge same_failures same_loans h none =
      let begun = none-so_far {is_known = is_known} {remaining = remaining} {charge = charge} {failures = failures} {loans = loans} {limit = limit} {claim = claim} {format = format} {decodes_to = decodes_to}
      {count = count} {old = old} h in
      record {
        known = λ k. let s = begun.known k in (tells k, s.1, rw (same_remaining, same_charge) s.2, rw none s.3);
        reserved = rw same_charge begun.reserved;
        charge_kept = rw same_charge begun.charge_kept;
        within = rw same_charge begun.within;
        failures_monotone = rw same_failures begun.failures_monotone;
        same_loans = same_loans;
      }

  -- all were read, and the result is made of them or refused
  pub finished-so_far : {A : Type 0} {end_error : ℕ → DecodeError → Type 0} {device : DeviceErrors} {values : A → List T} {read : ℕ} (r : Result A DecodeError) →
      RunSoFar is_known remaining charge failures loans limit claim format decodes_to count read vs old now → read ≡ count →
      MatchResult r (λ v. values v ≡ vs) (λ e. e ≡ Memory) →
      RunRead is_known remaining charge failures loans limit end_error device (Unit {0}) claim format decodes_to count values r old now
  finished-so_far (Ok v) h all made = all-so_far h all made
  finished-so_far (Err e) h all refused = rw refused (refused-so_far tt h (omega (arith, all)))
