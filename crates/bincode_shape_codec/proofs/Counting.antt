-- How many values a word makes, from how many its parts make.
use Rattle.std.specs.Prelude.{◌≡◌, ℕ, zero, suc, ◌+◌, ◌*◌, ◌-◌, ◌<◌, ◌≤◌, List, [], ◌∷◌, ◌++◌, length, get_or, Option, Result, Ok, Err, refl}
use Rattle.std.specs.Borrow.{GName}
use Rattle.std.proofs.Common.{sym, ◌∙◌, ap, arith}
use Rattle.bincode_base.specs.Setting.{Setting}
use Rattle.bincode_base.specs.declared.error.DecodeError.{DecodeError}
use Rattle.bincode_spec.specs.Answer.{Allows, answer}
use Rattle.bincode_spec.specs.Device.{DeviceErrors, Takes}
use Rattle.bincode_spec.specs.Format.{Format}
use Rattle.bincode_spec.specs.Meaning.{Meaning, Nothing, Then}
use Rattle.bincode_spec.specs.Run.{IsListOf}
use Rattle.bincode_spec.specs.Layers.Values.{Reads}
use Rattle.bincode_spec.specs.Integers.{unsigned_byte}
use Rattle.bincode_spec.specs.Words.{tag, tuple, tag_then_part}
use Rattle.bincode_lemmas.specs.DecodingLaws.{stops-besides, takes-then, gave-takes}
use Rattle.bincode_decoder.proofs.ReadAnswers.{read-as, made-of}
use Rattle.bincode_shape.specs.declared.shape.Shape.{Shape}
use Rattle.bincode_shape.specs.Shapes.{format_of, at, byte_tag, option_variants, one_of, numbered_variants}
use Rattle.bincode_shape.specs.ShapeLaws.{format_of-lawful}
use Rattle.bincode_shape.specs.Counts.{count_of, count_each, count_parts, count_some, count_picked, count_choice, as_u128, IsCounted}
use Rattle.bincode_shape.specs.Rows.{formats, counts}
use Rattle.bincode_shape_codec.specs.Counted.{total, with_whole}
use Rattle.bincode_shape_codec.proofs.Alike.{copies}
use Rattle.bincode_shape_codec.proofs.Chosen.{held-reads, held-stops}
use Rattle.bincode_shape_codec.proofs.Optional.{some-reads, some-stops}
use Rattle.bincode_shape_codec.proofs.Parts.{before, before-push, behind, after-none, after-push, part-then, part-stops, stops-after, nothing-gives}

-- counts of two parts
pub capped-adds : (a b c d : ℕ) → a ≡ as_u128 c → b ≡ as_u128 d → as_u128 (a + b) ≡ as_u128 (c + d)
capped-adds a b c d h k = omega (arith, h, k)

pub capped-joins : (a b c d : ℕ) → as_u128 a ≡ as_u128 c → b ≡ as_u128 d → as_u128 (b + a) ≡ as_u128 (d + c)
capped-joins a b c d h k = omega (arith, h, k)

-- of a list
pub total-counted : (count : Meaning → ℕ) (ns : List ℕ) (m : Meaning) → IsListOf (λ n k. n ≡ as_u128 (count k)) ns m → as_u128 (total ns) ≡ as_u128 (count_each count m)
total-counted count [] m h = rw h refl
total-counted count (n ∷ ns) m h =
    rw h.meaning_is (capped-joins (total ns) n (count_each count h.others) (count h.first) (total-counted count ns h.others h.are_others) h.is_first)

-- one more is counted
pub total-push : (ns : List ℕ) (n : ℕ) → total (ns ++ n ∷ []) ≡ total ns + n
total-push [] n = omega arith
total-push (k ∷ ns) n = let h = total-push ns n in omega (arith, h)

pub total-copies : (k n : ℕ) → total (copies k n) ≡ n * k
total-copies zero n = omega arith
total-copies (suc k) n = let h = total-copies k n in let e : n * suc k ≡ n + n * k = omega arith in omega (arith, h, e)

-- n times one count
pub total-alike : (len n : ℕ) → 0 < len → total (n ∷ copies (len - 1) n) ≡ n * len
total-alike zero n h = absurd (omega arith)
total-alike (suc k) n h =
    let e = total-copies k n in
    let f : n * suc k ≡ n + n * k = omega arith in
    let one : suc k - 1 ≡ k = omega arith in
    rw one (omega (arith, e, f))

-- of the part that a tag selects
pub picked-counts : (ps : List Shape) (n : ℕ) (p : Shape) (m : Meaning) → n < length ps → p ≡ get_or ps n p → count_of p m ≡ count_picked (counts ps) n m
picked-counts [] n p m h e = absurd (omega arith)
picked-counts (q ∷ ps) zero p m h e = ap (λ z. count_of z m) e
picked-counts (q ∷ ps) (suc n) p m h e = picked-counts ps n p m (omega (arith, h)) e

module _ {D : Type 0} {is_known : D → Type 0} {remaining : D → List ℕ} {charge failures : D → ℕ} {loans : D → List GName} {limit : Option ℕ}
    {end_error : ℕ → DecodeError → Type 0} {device : DeviceErrors} {may_allocate : Type 0} {F : Format Meaning} {start : ℕ} {old new : D} where
  -- the whole is one value more than its parts
  pub whole-counted : (count whole : Meaning → ℕ) (r : Result ℕ DecodeError) → ((m : Meaning) → whole m ≡ count m + 1) →
      Reads is_known remaining charge failures loans limit end_error device may_allocate F (λ m n. n ≡ as_u128 (count m)) start r old new →
      Reads is_known remaining charge failures loans limit end_error device may_allocate F (λ m n. n ≡ as_u128 (whole m)) start (with_whole r) old new
  whole-counted count whole (Ok n) e read =
      read-as (λ known. made-of (λ m h. let one : 1 ≡ as_u128 1 = omega arith in capped-adds n 1 (count m) 1 h one ∙ ap as_u128 (sym (e m))) (read.ok known)) (λ known. tt) read.within read
  whole-counted count whole (Err e) more read = read-as (λ known. tt) read.err (λ _. tt) read

-- these parts of a tuple are left, and n values were counted
pub record PartsCounted {D : Type 0} (is_known : D → Type 0) (remaining : D → List ℕ) (charge failures : D → ℕ) (loans : D → List GName) (limit : Option ℕ)
    (s : Setting) (parts left : List Shape) (n : ℕ) (old now : D) : Type 0 where
  pub known : is_known old →
      is_known now × (ms : List Meaning) × (behind ms (answer limit (tuple (at s (formats left))) (remaining now) (charge now)) ≡ answer limit (tuple (at s (formats parts))) (remaining old) (charge old))
      × Takes (remaining old) (remaining now) × ((m : Meaning) → as_u128 (count_parts (counts parts) (before ms m)) ≡ as_u128 (n + count_parts (counts left) m))
  pub small : n ≡ as_u128 n
  pub charge_kept : charge old ≤ charge now
  pub within : Allows limit (charge old) → Allows limit (charge now)
  pub failures_monotone : failures old ≤ failures now
  pub same_loans : loans now ≡ loans old

none-yet : (n : ℕ) → as_u128 n ≡ as_u128 (0 + n)
none-yet n = omega arith

no-more : (n : ℕ) → n ≡ as_u128 n → as_u128 (n + 0) ≡ n
no-more n h = omega (arith, h)

once-more : (n a b v w : ℕ) → v ≡ as_u128 a → w ≡ as_u128 (n + v) → as_u128 (n + (a + b)) ≡ as_u128 (w + b)
once-more n a b v w h k = omega (arith, h, k)

capped-twice : (n w : ℕ) → w ≡ as_u128 n → w ≡ as_u128 w
capped-twice n w h = omega (arith, h)

module _ {D : Type 0} {is_known : D → Type 0} {remaining : D → List ℕ} {charge failures : D → ℕ} {loans : D → List GName} {limit : Option ℕ}
    {s : Setting} {parts : List Shape} {old : D} where
  pub none-counted : PartsCounted is_known remaining charge failures loans limit s parts parts 0 old old
  none-counted = record {
    known = λ k. (k, [], after-none (answer limit (tuple (at s (formats parts))) (remaining old) (charge old)), ([], refl), λ m. none-yet (count_parts (counts parts) m));
    small = omega arith;
    charge_kept = omega arith;
    within = λ a. a;
    failures_monotone = omega arith;
    same_loans = refl;
  }

  module _ {left : List Shape} {n : ℕ} {now : D} (h : PartsCounted is_known remaining charge failures loans limit s parts left n old now) where
    pub all-counted : {end_error : ℕ → DecodeError → Type 0} {device : DeviceErrors} {may_allocate : Type 0} → left ≡ [] →
        Reads is_known remaining charge failures loans limit end_error device may_allocate (tuple (at s (formats parts))) (λ m k. k ≡ as_u128 (count_parts (counts parts) m)) (charge old) (Ok n) old now
    all-counted none = record {
      ok = λ k.
          let p = h.known k in
          record {
            meaning = before p.1 Nothing;
            answer_is = sym (rw none at p.2) ∙ ap (behind p.1) (nothing-gives limit (remaining now) (charge now));
            is_decoded = sym ((rw none at p.4 Nothing) ∙ no-more n h.small);
          };
      err = λ k. tt;
      failures_monotone = h.failures_monotone;
      tells = λ k. (h.known k).0;
      charge_kept = h.charge_kept;
      within = h.within;
      same_loans = h.same_loans;
    }

    module _ {part : Shape} {others : List Shape} (next : left ≡ part ∷ others) {end_error : ℕ → DecodeError → Type 0} {device : DeviceErrors} {may_allocate : Type 0} {after : D} where
      pub next-counted : {v w : ℕ} → w ≡ as_u128 (n + v) →
          Reads is_known remaining charge failures loans limit end_error device may_allocate (format_of part s) (IsCounted part) (charge now) (Ok v) now after →
          PartsCounted is_known remaining charge failures loans limit s parts others w old after
      next-counted {v = v} {w = w} sum r = record {
        known = λ k.
            let p = h.known k in
            let d = r.ok p.0 in
            let x = d.meaning in
            let is = rw next at p.2 in
            let each = rw next at p.4 in (
              r.tells p.0,
              p.1 ++ x ∷ [],
              sym (after-push p.1 x (answer limit (tuple (at s (formats others))) (remaining after) (charge after)))
                  ∙ ap (behind p.1) (sym (part-then limit (format_of part s) (tuple (at s (formats others))) (remaining now) (remaining after) (charge now) (charge after) x d.answer_is))
                  ∙ is,
              takes-then (remaining old) (remaining now) (remaining after) p.3 (gave-takes limit (format_of part s) (format_of-lawful part s) (remaining now) (charge now) x (remaining after) (charge after) d.answer_is),
              λ m. ap (λ z. as_u128 (count_parts (counts parts) z)) (before-push p.1 x m) ∙ each (Then x m)
                  ∙ once-more n (count_of part x) (count_parts (counts others) m) v w d.is_decoded sum,
            );
        small = capped-twice (n + v) w sum;
        within = λ a. r.within (h.within a);
        charge_kept = let a = h.charge_kept in let b = r.charge_kept in omega (arith, a, b);
        failures_monotone = let a = h.failures_monotone in let b = r.failures_monotone in omega (arith, a, b);
        same_loans = r.same_loans ∙ h.same_loans;
      }

      pub stops-counted : {T H : Type 0} {decodes_to : Meaning → T → Type 0} {e : DecodeError} → (H → may_allocate) →
          Reads is_known remaining charge failures loans limit end_error device H (format_of part s) (IsCounted part) (charge now) (Err e) now after →
          Reads is_known remaining charge failures loans limit end_error device may_allocate (tuple (at s (formats parts))) decodes_to (charge old) (Err e) old after
      stops-counted {H = H} {e = e} widen r = record {
        ok = λ k. tt;
        err = λ k.
            let p = h.known k in
            let is = rw next at p.2 in
            stops-after end_error device may_allocate p.1 _ _ (failures old) (failures now) (failures after) (remaining old) (remaining now) (remaining after) e is p.3 h.failures_monotone
            (part-stops end_error device may_allocate limit (format_of part s) (tuple (at s (formats others))) (remaining now) (charge now) (failures now) (failures after) (remaining after) e
            (stops-besides end_error device H may_allocate widen _ _ _ _ _ e (r.err p.0)));
        failures_monotone = let a = h.failures_monotone in let b = r.failures_monotone in omega (arith, a, b);
        tells = λ k. r.tells (h.known k).0;
        within = λ _. tt;
        charge_kept = let a = h.charge_kept in let b = r.charge_kept in omega (arith, a, b);
        same_loans = r.same_loans ∙ h.same_loans;
      }

module _ {D : Type 0} {is_known : D → Type 0} {remaining : D → List ℕ} {charge failures : D → ℕ} {loans : D → List GName} {limit : Option ℕ}
    {end_error : ℕ → DecodeError → Type 0} {device : DeviceErrors} {may_allocate : Type 0} {start : ℕ} (s : Setting) where
  -- the count of the part of an option,
  pub some-counted : (part : Shape) {b : ℕ} {old middle new : D} (r : Result ℕ DecodeError) → b ≡ 1 →
      Reads is_known remaining charge failures loans limit end_error device ⊥ unsigned_byte (λ n v. n ≡ v) start (Ok b) old middle →
      Reads is_known remaining charge failures loans limit end_error device may_allocate (format_of part s) (IsCounted part) (charge middle) r middle new →
      Reads is_known remaining charge failures loans limit end_error device may_allocate (tag_then_part byte_tag (option_variants (format_of part)) s) (λ m n. n ≡ as_u128 (count_some (count_of part) m)) start r old new
  some-counted part (Ok v) one first read = some-reads s part one (λ m h. h) first read
  some-counted part (Err e) one first read = some-stops s part one first read

  -- and of the part that a tag selects
  pub held-counted : (ps : List Shape) (found : ℕ) (p : Shape) {old middle new : D} (r : Result ℕ DecodeError) → 0 < length ps → found < length ps → p ≡ get_or ps found p →
      Reads is_known remaining charge failures loans limit end_error device ⊥ (tag s) (λ n v. n ≡ v) start (Ok found) old middle →
      Reads is_known remaining charge failures loans limit end_error device may_allocate (format_of p s) (IsCounted p) (charge middle) r middle new →
      Reads is_known remaining charge failures loans limit end_error device may_allocate (one_of (numbered_variants 0 (formats ps)) s) (λ m n. n ≡ as_u128 (count_choice (counts ps) m)) start r old new
  held-counted ps found p (Ok v) some h e first read = held-reads s ps some h e (λ m k. k ∙ ap as_u128 (picked-counts ps found p m h e)) first read
  held-counted ps found p (Err e) some h i first read = held-stops s ps some h i first read
