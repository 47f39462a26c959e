-- What a text shows, from what was stored in it.
use Rattle.std.specs.Prelude.{◌≡◌, ℕ, ◌-◌, ◌<◌, ◌≤◌, ◌⊎◌, true, false, List, [], ◌++◌, length, take, drop, cond, MatchResult, IsUtf8, Result, Ok, Err, refl}
use Rattle.std.proofs.Common.{arith, inl, inr, sym, ap, subst, ◌∙◌, take_at, take_all, take-append-drop, Bor, Bool, ltb, ltb→lt, nltb→le, T, not}
use Rattle.std.specs.Str.{is_utf8, IsCharBoundary}
use Rattle.std.proofs.lemmas.Bool.{le-ltb}
use Rattle.std.proofs.lemmas.Str.{is_utf8-from_IsUtf8, IsUtf8-from_is_utf8, IsCharBoundary-end}
use Rattle.std.specs.Result.{result_unwrap_or}
use Rattle.bincode_base.specs.declared.short_text.Text.{Text}
use Rattle.bincode_base.specs.ShortText.{held_bytes, text_bytes}

order : (m n : ℕ) → (m < n) ⊎ (n ≤ m)
order m n = by_test (ltb m n) refl
  where
    by_test : (y : Bool) → ltb m n ≡ y → (m < n) ⊎ (n ≤ m)
    by_test true e = inl (ltb→lt m n (subst T (sym e) tt))
    by_test false e = inr (nltb→le m n (subst (λ (z : Bool). T (not z)) (sym e) tt))

-- no later place is one between characters, so a text that fits is whole
pub whole : (k most : ℕ) (bytes : List ℕ) → ((i : ℕ) → k < i → i ≤ most → ¬ (IsCharBoundary bytes i)) → length bytes ≤ most → take (k - 0) bytes ≡ bytes
whole k most bytes nearest fits = elim (order k (length bytes)) [
  | inl short ↦ absurd (nearest (length bytes) short fits (IsCharBoundary-end bytes))
  | inr all ↦ take_all (k - 0) bytes (omega arith)
]

pub split : (k : ℕ) (bytes : List ℕ) → bytes ≡ take (k - 0) bytes ++ drop k bytes
split k bytes = let same : k - 0 ≡ k = omega arith in rw same (sym (take-append-drop k bytes))

module _ {room : ℕ} where
  pub shown : (t : Text room) → t.length ≤ room → IsUtf8 (held_bytes t) → text_bytes t ≡ held_bytes t
  shown t within h = rw (le-ltb room t.length within, is_utf8-from_IsUtf8 _ h) refl

  pub not-shown : (t : Text room) → t.length ≤ room → ¬ (IsUtf8 (held_bytes t)) → text_bytes t ≡ []
  not-shown t within h = rw (le-ltb room t.length within) (elim (is_utf8 (held_bytes t)) as (λ b. is_utf8 (held_bytes t) ≡ b → cond b (held_bytes t) [] ≡ []) [ true ↦ λ e. absurd (h (IsUtf8-from_is_utf8 _ e)) | false ↦ λ e. refl ] refl)

  -- r is what `from_utf8` made of the bytes
  pub checked : {E : Type 0} (t : Text room) (bs : List ℕ) (r : Result (Bor (List ℕ)) E) (empty : Bor (List ℕ)) (P : E → Type 0) → t.length ≤ room → bs ≡ held_bytes t → empty.now ≡ []
      → MatchResult r (λ s. (s.now ≡ bs) × IsUtf8 bs) (λ e. ¬ (IsUtf8 bs) × P e) → (result_unwrap_or r empty).now ≡ text_bytes t
  checked t bs (Ok s) empty P within is none h = h.0 ∙ is ∙ sym (shown t within (subst IsUtf8 is h.1))
  checked t bs (Err e) empty P within is none h = none ∙ sym (not-shown t within (λ k. h.0 (subst IsUtf8 (sym is) k)))

-- a kept text, followed by other bytes
pub put-in : (room : ℕ) (kept copied rest : List ℕ) → length kept ≤ room → copied ≡ kept → IsUtf8 kept → text_bytes {room = room} (record { length = length kept; bytes = copied ++ rest }) ≡ kept
put-in room kept copied rest within is h =
    let t : Text room = record { length = length kept; bytes = copied ++ rest } in
    let held : held_bytes t ≡ kept = ap (λ l. take (length kept) (l ++ rest)) is ∙ take_at kept rest _ refl in
    shown t within (subst IsUtf8 (sym held) h) ∙ held
