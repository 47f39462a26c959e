-- Decoding the parts of a tuple, one by one.
use Rattle.std.proofs.lemmas.List.{drop_more}
use Rattle.std.specs.Prelude.{◌≡◌, ℕ, zero, suc, ◌+◌, ◌<◌, ◌≤◌, length, get_or, drop, ◌&&◌, List, [], ◌∷◌, ◌++◌, map, Option, Ok, Err, refl}
use Rattle.std.specs.Borrow.{GName}
use Rattle.std.specs.declared.alloc.Global.{Global}
use Rattle.std.specs.declared.vec.Vec.{Vec}
use Rattle.std.proofs.Common.{sym, ◌∙◌, ap, arith, append_assoc, append-nil}
use Rattle.bincode_base.specs.Setting.{Setting}
use Rattle.bincode_base.specs.declared.error.DecodeError.{DecodeError}
use Rattle.bincode_base.specs.declared.error.DecodeError.TheVariants.{Memory}
use Rattle.bincode_spec.specs.Answer.{Answer, Gave, Refused, PassedLimit, Allows, answer}
use Rattle.bincode_lemmas.specs.Sequences.{and_then}
use Rattle.bincode_spec.specs.Decoding.{DecodeFailure, by_fault, by_limit, by_memory, by_failure, by_device}
use Rattle.bincode_spec.specs.Device.{DeviceErrors, Takes}
use Rattle.bincode_spec.specs.Format.{Format, pure, map_format}
use Rattle.bincode_spec.specs.Meaning.{Meaning, Nothing, Then, list_meaning}
use Rattle.bincode_spec.specs.Layers.Values.{Reads}
use Rattle.bincode_spec.specs.Words.{nothing, first_and, tuple}
use Rattle.bincode_lemmas.specs.AnswerLaws.{answer-then, answer-pure}
use Rattle.bincode_lemmas.specs.DecodingLaws.{answer-next, stops-first, stops-besides, rose-then, takes-then, gave-takes, nothing-decodes}
use Rattle.bincode_shape.specs.declared.shape.Shape.{Shape}
use Rattle.bincode_shape.specs.declared.shape.Value.{Value}
use Rattle.bincode_shape.specs.Shapes.{format_of, at, each_passes, meaning, IsImage}
use Rattle.bincode_shape.specs.ShapeLaws.{format_of-lawful}
use Rattle.bincode_shape.specs.Rows.{formats, tests, AreImages}

-- these meanings, then that of the others
abbrev pub before : List Meaning → Meaning → Meaning
before [] m = m
before (x ∷ ms) m = Then x (before ms m)

pub before-push : (ms : List Meaning) (x m : Meaning) → before (ms ++ x ∷ []) m ≡ before ms (Then x m)
before-push [] x m = refl
before-push (y ∷ ms) x m = ap (Then y) (before-push ms x m)

pub before-none : (ms : List Meaning) → before ms Nothing ≡ list_meaning ms
before-none [] = refl
before-none (y ∷ ms) = ap (Then y) (before-none ms)

abbrev pub behind : List Meaning → Answer Meaning → Answer Meaning
behind ms a = and_then a (λ m remaining charge. Gave (before ms m) remaining charge)

pub after-none : (a : Answer Meaning) → behind [] a ≡ a
after-none (Gave m remaining c) = refl
after-none (Refused why c) = refl
after-none PassedLimit = refl

pub after-push : (ms : List Meaning) (x : Meaning) (a : Answer Meaning) → behind ms (and_then a (λ m remaining charge. Gave (Then x m) remaining charge)) ≡ behind (ms ++ x ∷ []) a
after-push ms x (Gave m remaining c) = ap (λ z. Gave z remaining c) (sym (before-push ms x m))
after-push ms x (Refused why c) = refl
after-push ms x PassedLimit = refl

last-then : (limit : Option ℕ) (x : Meaning) (a : Answer Meaning) → and_then a (λ m remaining c. answer limit (pure (Then x m)) remaining c) ≡ and_then a (λ m remaining c. Gave (Then x m) remaining c)
last-then limit x (Gave m remaining c) = answer-pure limit (Then x m) remaining c
last-then limit x (Refused why c) = refl
last-then limit x PassedLimit = refl

-- the first part, then the others
pub part-then : (limit : Option ℕ) (F others : Format Meaning) (input remaining : List ℕ) (c d : ℕ) (x : Meaning) → answer limit F input c ≡ Gave x remaining d →
    answer limit (first_and F others) input c ≡ and_then (answer limit others remaining d) (λ m r e. Gave (Then x m) r e)
unfolding first_and
part-then limit F others input remaining c d x h =
    answer-next limit F (λ m. map_format (Then m) others) input c x remaining d h
    ∙ answer-then limit others (λ m. pure (Then x m)) remaining d
    ∙ last-then limit x (answer limit others remaining d)

pub part-stops : (end_error : ℕ → DecodeError → Type 0) (device : DeviceErrors) (H : Type 0) (limit : Option ℕ) (F others : Format Meaning) (input : List ℕ) (c before after : ℕ) (remaining : List ℕ) {now : ℕ} (e : DecodeError) →
    DecodeFailure end_error device H (answer limit F input c) before after input remaining now e → DecodeFailure end_error device H (answer limit (first_and F others) input c) before after input remaining now e
unfolding first_and
part-stops end_error device H limit F others input c before after remaining e s = stops-first end_error device H H (λ h. h) limit F (λ m. map_format (Then m) others) input c before after remaining e s

pub stops-after : (end_error : ℕ → DecodeError → Type 0) (device : DeviceErrors) (H : Type 0) (ms : List Meaning) (a all : Answer Meaning) (before between after : ℕ) (input remaining remaining' : List ℕ) {now : ℕ} (e : DecodeError) →
    behind ms a ≡ all → Takes input remaining → before ≤ between → DecodeFailure end_error device H a between after remaining remaining' now e → DecodeFailure end_error device H all before after input remaining' now e
stops-after end_error device H ms a all before between after input remaining remaining' e same took le (by_fault why h t k) =
    by_fault why (sym same ∙ ap (behind ms) h) t (takes-then input remaining remaining' took k)
stops-after end_error device H ms a all before between after input remaining remaining' e same took le (by_limit h t k) = by_limit (sym same ∙ ap (behind ms) h) t (takes-then input remaining remaining' took k)
stops-after end_error device H ms a all before between after input remaining remaining' e same took le (by_memory h t k) = by_memory h t (takes-then input remaining remaining' took k)
stops-after end_error device H ms a all before between after input remaining remaining' e same took le (by_failure d r k) = by_failure d (rose-then before between after le r) (takes-then input remaining remaining' took k)
stops-after end_error device H ms a all before between after input remaining remaining' e same took le (by_device h) = by_device h

pub nothing-gives : (limit : Option ℕ) (input : List ℕ) (c : ℕ) → answer limit nothing input c ≡ Gave Nothing input c
nothing-gives limit input c = let d = nothing-decodes limit input c in d.answer_is ∙ ap (λ m. Gave m input c) d.is_decoded

map-push : (vs : List Value) (v : Value) → map meaning (vs ++ v ∷ []) ≡ map meaning vs ++ meaning v ∷ []
map-push [] v = refl
map-push (w ∷ vs) v = ap (λ z. meaning w ∷ z) (map-push vs v)

-- these parts are left, and these values were decoded
pub record PartsSoFar {D : Type 0} (is_known : D → Type 0) (remaining : D → List ℕ) (charge failures : D → ℕ) (loans : D → List GName) (limit : Option ℕ)
    (s : Setting) (parts left : List Shape) (vs : List Value) (old now : D) : Type 0 where
  pub known : is_known old →
      is_known now × (behind (map meaning vs) (answer limit (tuple (at s (formats left))) (remaining now) (charge now)) ≡ answer limit (tuple (at s (formats parts))) (remaining old) (charge old))
      × Takes (remaining old) (remaining now) × ((ws : List Value) → each_passes (tests parts) (vs ++ ws) ≡ each_passes (tests left) ws)
  pub charge_kept : charge old ≤ charge now
  pub within : Allows limit (charge old) → Allows limit (charge now)
  pub failures_monotone : failures old ≤ failures now
  pub same_loans : loans now ≡ loans old

module _ {D : Type 0} {is_known : D → Type 0} {remaining : D → List ℕ} {charge failures : D → ℕ} {loans : D → List GName} {limit : Option ℕ}
    {s : Setting} {parts : List Shape} {old : D} where
  pub none-so_far : PartsSoFar is_known remaining charge failures loans limit s parts parts [] old old
  none-so_far = record {
    known = λ k. (k, after-none (answer limit (tuple (at s (formats parts))) (remaining old) (charge old)), ([], refl), λ ws. refl);
    charge_kept = omega arith;
    within = λ a. a;
    failures_monotone = omega arith;
    same_loans = refl;
  }

  module _ {left : List Shape} {vs : List Value} {now : D} (h : PartsSoFar is_known remaining charge failures loans limit s parts left vs old now) where
    pub all-so_far : {end_error : ℕ → DecodeError → Type 0} {device : DeviceErrors} {may_allocate : Type 0} {v : Vec Value Global} → left ≡ [] → v.items ≡ vs →
        Reads is_known remaining charge failures loans limit end_error device may_allocate (tuple (at s (formats parts))) (λ m v. AreImages parts m v.items) (charge old) (Ok v) old now
    all-so_far none same = record {
      ok = λ k.
          let p = h.known k in
          record {
            meaning = list_meaning (map meaning vs);
            answer_is = sym (rw none at p.1) ∙ ap (behind (map meaning vs)) (nothing-gives limit (remaining now) (charge now))
                ∙ ap (λ z. Gave z (remaining now) (charge now)) (before-none (map meaning vs));
            is_decoded = rw same (ap (each_passes (tests parts)) (sym (append-nil vs)) ∙ (rw none at p.3 []), refl);
          };
      err = λ k. tt;
      failures_monotone = h.failures_monotone;
      tells = λ k. (h.known k).0;
      charge_kept = h.charge_kept;
      within = h.within;
      same_loans = h.same_loans;
    }

    pub refused-so_far : {end_error : ℕ → DecodeError → Type 0} {device : DeviceErrors} →
        Reads is_known remaining charge failures loans limit end_error device (Unit {0}) (tuple (at s (formats parts))) (λ m (v : Vec Value Global). AreImages parts m v.items) (charge old) (Err Memory) old now
    refused-so_far = record {
      ok = λ k. tt;
      err = λ k. by_memory tt refl (h.known k).2;
      failures_monotone = h.failures_monotone;
      tells = λ k. (h.known k).0;
      charge_kept = h.charge_kept;
      within = λ _. tt;
      same_loans = h.same_loans;
    }

    module _ {part : Shape} {others : List Shape} (next : left ≡ part ∷ others) {end_error : ℕ → DecodeError → Type 0} {device : DeviceErrors} {may_allocate : Type 0} {after : D} where
      pub next-so_far : {v : Value} {ws : List Value} → ws ≡ vs ++ v ∷ [] →
          Reads is_known remaining charge failures loans limit end_error device may_allocate (format_of part s) (IsImage part) (charge now) (Ok v) now after →
          PartsSoFar is_known remaining charge failures loans limit s parts others ws old after
      next-so_far {v = v} same r = record {
        known = λ k.
            let p = h.known k in
            let d = r.ok p.0 in
            let is = rw next at p.1 in
            let fit = rw next at p.3 in
            let gave : answer limit (format_of part s) (remaining now) (charge now) ≡ Gave (meaning v) (remaining after) (charge after) = d.answer_is ∙ ap (λ z. Gave z (remaining after) (charge after)) d.is_decoded.1 in
            rw (same, map-push vs v) (
              r.tells p.0,
              sym (after-push (map meaning vs) (meaning v) (answer limit (tuple (at s (formats others))) (remaining after) (charge after)))
                  ∙ ap (behind (map meaning vs)) (sym (part-then limit (format_of part s) (tuple (at s (formats others))) (remaining now) (remaining after) (charge now) (charge after) (meaning v) gave))
                  ∙ is,
              takes-then (remaining old) (remaining now) (remaining after) p.2 (gave-takes limit (format_of part s) (format_of-lawful part s) (remaining now) (charge now) (meaning v) (remaining after) (charge after) gave),
              λ us. ap (each_passes (tests parts)) (append_assoc vs (v ∷ []) us) ∙ (fit (v ∷ us) ∙ ap (λ b. b && each_passes (tests others) us) d.is_decoded.0),
            );
        within = λ a. r.within (h.within a);
        charge_kept = let a = h.charge_kept in let b = r.charge_kept in omega (arith, a, b);
        failures_monotone = let a = h.failures_monotone in let b = r.failures_monotone in omega (arith, a, b);
        same_loans = r.same_loans ∙ h.same_loans;
      }

      pub stops-so_far : {H : Type 0} {e : DecodeError} → (H → may_allocate) →
          Reads is_known remaining charge failures loans limit end_error device H (format_of part s) (IsImage part) (charge now) (Err e) now after →
          Reads is_known remaining charge failures loans limit end_error device may_allocate (tuple (at s (formats parts))) (λ m (v : Vec Value Global). AreImages parts m v.items) (charge old) (Err e) old after
      stops-so_far {H = H} {e = e} widen r = record {
        ok = λ k. tt;
        err = λ k.
            let p = h.known k in
            let is = rw next at p.1 in
            stops-after end_error device may_allocate (map meaning vs) _ _ (failures old) (failures now) (failures after) (remaining old) (remaining now) (remaining after) e is p.2 h.failures_monotone
            (part-stops end_error device may_allocate limit (format_of part s) (tuple (at s (formats others))) (remaining now) (charge now) (failures now) (failures after) (remaining after) e
            (stops-besides end_error device H may_allocate widen _ _ _ _ _ e (r.err p.0)));
        failures_monotone = let a = h.failures_monotone in let b = r.failures_monotone in omega (arith, a, b);
        tells = λ k. r.tells (h.known k).0;
        within = λ _. tt;
        charge_kept = let a = h.charge_kept in let b = r.charge_kept in omega (arith, a, b);
        same_loans = r.same_loans ∙ h.same_loans;
      }

-- the parts that are left at the next one and at the end
pub next-part : (ps : List Shape) (i : ℕ) (p : Shape) → i < length ps → p ≡ get_or ps i p → drop i ps ≡ p ∷ drop (i + 1) ps
next-part ps i p h e = drop_more ps i p h ∙ ap (λ z. z ∷ drop (i + 1) ps) (sym e)

pub no-part : (ps : List Shape) (i : ℕ) → length ps ≤ i → drop i ps ≡ []
no-part [] zero h = refl
no-part [] (suc i) h = refl
no-part (p ∷ ps) zero h = absurd (omega arith)
no-part (p ∷ ps) (suc i) h = no-part ps i (omega (arith, h))
