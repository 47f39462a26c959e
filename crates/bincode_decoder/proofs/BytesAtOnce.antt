-- Reading bytes at once is the same as reading them one by one.
use Rattle.std.specs.Prelude.{◌≡◌, ◌⊎◌, ℕ, suc, ◌+◌, ◌-◌, ◌*◌, ◌<◌, pos, List, [], ◌∷◌, ◌++◌, length, map, nat_lt, Option, Some, None, false, Result, Ok, Err, IfErr, refl}
use Rattle.std.proofs.Common.{sym, ◌∙◌, ap, subst, inl, inr, arith, append_assoc, append-nil}
use Rattle.std.proofs.lemmas.Bool.{le-ltb, le-leb}
use Rattle.bincode_base.specs.declared.error.DecodeError.{DecodeError}
use Rattle.bincode_spec.specs.Fault.{End}
use Rattle.bincode_spec.specs.Device.{DeviceErrors, CountRises, Takes}
use Rattle.bincode_spec.specs.Layers.Pieces.{FallsShort}
use Rattle.bincode_spec.specs.Format.{pure, fixed_bytes, step, ◌>>=◌, without_count, elements}
use Rattle.bincode_lemmas.specs.FormatLaws.{map-lawful}
use Rattle.bincode_lemmas.specs.Balance.{map-balanced}
use Rattle.bincode_spec.specs.Integers.{byte, unsigned_byte}
use Rattle.bincode_lemmas.specs.IntegerLaws.{unsigned_byte-lawful, unsigned_byte-balanced}
use Rattle.bincode_spec.specs.Meaning.{Meaning, Number, IsNumber, list_meaning}
use Rattle.bincode_spec.specs.Words.{natural_number}
use Rattle.bincode_spec.specs.Answer.{Answer, Allows, Gave, Refused, answer, after_release}
use Rattle.bincode_spec.specs.Decoding.{Decodes, DecodeFailure, by_fault, by_failure, by_device}
use Rattle.bincode_spec.specs.Run.{IsListOf}
use Rattle.bincode_spec.specs.Layers.Releases.{CanRelease}
use Rattle.bincode_lemmas.specs.RunLaws.{ReadSoFar, behind, none-read, one-more, all-read}

-- what a byte means
abbrev number : ℕ → Meaning
number b = Number (pos b)

byte_word : (b : ℕ) (remaining : List ℕ) → nat_lt (length (b ∷ remaining)) 1 ≡ false
byte_word b remaining = le-ltb (length (b ∷ remaining)) 1 (omega arith)

-- reading a byte whose claim was released
byte_gave : (limit : Option ℕ) (b : ℕ) (remaining : List ℕ) (c : ℕ) → Allows limit c → CanRelease limit c 1 → answer limit (natural_number unsigned_byte) (b ∷ remaining) (after_release limit c 1) ≡ Gave (number b) remaining c
unfolding answer unsigned_byte byte fixed_bytes step pure ◌>>=◌
byte_gave None b remaining c l h = rw (byte_word b remaining) refl
byte_gave (Some limit) b remaining c l h = let e : c - 1 + 1 ≡ c = omega arith in rw (byte_word b remaining, e, le-leb c limit l) refl

-- no byte is left
byte_ends : (limit : Option ℕ) (n c : ℕ) → Allows limit c → CanRelease limit c 1 → answer limit (elements (suc n) 1 (natural_number unsigned_byte)) [] c ≡ Refused (End None) c
unfolding answer unsigned_byte byte fixed_bytes step pure ◌>>=◌ without_count
byte_ends None n c l h = refl
byte_ends (Some limit) n c l h = let e : c - 1 + 1 ≡ c = omega arith in rw (e, le-leb c limit l) refl

one_of : (limit : Option ℕ) (c n : ℕ) → CanRelease limit c (suc n * 1) → CanRelease limit c 1
one_of None c n h = tt
one_of (Some limit) c n h = omega arith

listed_bytes : (bytes : List ℕ) → IsListOf (λ x m. IsNumber (pos x) m) bytes (list_meaning (map number bytes))
listed_bytes [] = refl
listed_bytes (b ∷ bytes) = record { first = number b; others = list_meaning (map number bytes); meaning_is = refl; is_first = refl; are_others = listed_bytes bytes }

module _ (limit : Option ℕ) (all : Answer (List Meaning)) (input : List ℕ) (c : ℕ) (l : Allows limit c) where
  -- n bytes are read
  bytes_read : (bytes remaining : List ℕ) (ms : List Meaning) (n k : ℕ) → n ≡ length bytes + k →
      ReadSoFar limit 1 (natural_number unsigned_byte) all input ms n (bytes ++ remaining) c →
      ReadSoFar limit 1 (natural_number unsigned_byte) all input (ms ++ map number bytes) k remaining c
  bytes_read [] remaining ms n k e h =
      let p : n ≡ k = omega (arith, e) in
      subst (λ z. ReadSoFar limit 1 (natural_number unsigned_byte) all input z k remaining c) (sym (append-nil ms)) (subst (λ z. ReadSoFar limit 1 (natural_number unsigned_byte) all input ms z remaining c) p h)
  bytes_read (b ∷ bytes) remaining ms n k e h =
      let p : n ≡ suc (length bytes + k) = omega (arith, e) in
      let q = subst (λ z. ReadSoFar limit 1 (natural_number unsigned_byte) all input ms z (b ∷ bytes ++ remaining) c) p h in
      let one =
      one-more limit 1 (natural_number unsigned_byte) all input ms (map-lawful _ _ unsigned_byte-lawful) (map-balanced _ _ unsigned_byte-balanced)
      (length bytes + k) (b ∷ bytes ++ remaining) c (number b) (bytes ++ remaining) c q
      (byte_gave limit b (bytes ++ remaining) c l (one_of limit c (length bytes + k) q.is_reserved)) in
      subst (λ z. ReadSoFar limit 1 (natural_number unsigned_byte) all input z k remaining c) (append_assoc ms (number b ∷ []) (map number bytes))
      (bytes_read bytes remaining (ms ++ number b ∷ []) (length bytes + k) k refl one)

  run_ends : (ms : List Meaning) (n : ℕ) → ReadSoFar limit 1 (natural_number unsigned_byte) all input ms (suc n) [] c → all ≡ Refused (End None) c
  run_ends ms n h = sym h.is_rest ∙ ap (behind ms) (byte_ends limit n c l (one_of limit c n h.is_reserved))

module _ (limit : Option ℕ) (n : ℕ) (input : List ℕ) (c : ℕ) (l : Allows limit c) (h : CanRelease limit c (n * 1)) where
  -- the bytes read at once are those read one by one
  pub bytes-decode : (bytes remaining : List ℕ) → input ≡ bytes ++ remaining → length bytes ≡ n →
      Decodes (λ ms. IsListOf (λ x m. IsNumber (pos x) m) bytes (list_meaning ms)) (answer limit (elements n 1 (natural_number unsigned_byte)) input c) remaining c
  bytes-decode bytes remaining e k =
      let all = answer limit (elements n 1 (natural_number unsigned_byte)) input c in
      let start : ReadSoFar limit 1 (natural_number unsigned_byte) all input [] n (bytes ++ remaining) c =
      subst (λ z. ReadSoFar limit 1 (natural_number unsigned_byte) all input [] n z c) e (none-read limit 1 (natural_number unsigned_byte) n input c h) in
      let r = bytes_read limit all input c l bytes remaining [] n 0 (omega (arith, k)) start in
      record { meaning = map number bytes; answer_is = all-read limit 1 (natural_number unsigned_byte) all input (map number bytes) remaining c r; is_decoded = listed_bytes bytes }

  bytes_end : length input < n → answer limit (elements n 1 (natural_number unsigned_byte)) input c ≡ Refused (End None) c
  bytes_end k =
      let all = answer limit (elements n 1 (natural_number unsigned_byte)) input c in
      let start : ReadSoFar limit 1 (natural_number unsigned_byte) all input [] n (input ++ []) c =
      subst (λ z. ReadSoFar limit 1 (natural_number unsigned_byte) all input [] n z c) (sym (append-nil input)) (none-read limit 1 (natural_number unsigned_byte) n input c h) in
      let r = bytes_read limit all input c l input [] [] n (suc (n - length input - 1)) (omega (arith, k)) start in
      run_ends limit all input c l (map number input) (n - length input - 1) r

  -- if the bytes cannot be read at once, reading them one by one fails too
  pub bytes-stop : (end_error : ℕ → DecodeError → Type 0) (device : DeviceErrors) (H : Type 0) (before after : ℕ) (remaining : List ℕ) {now : ℕ} (e : DecodeError) → now ≡ c →
      FallsShort end_error input n e ⊎ (device.is_uncounted e ⊎ (device.is_counted e × CountRises before after)) → device.is_uncounted e ⊎ Takes input remaining →
      DecodeFailure end_error device H (answer limit (elements n 1 (natural_number unsigned_byte)) input c) before after input remaining now e
  bytes-stop end_error device H before after remaining e still why (inl u) = by_device u
  bytes-stop end_error device H before after remaining e still (inl s) (inr t) = by_fault (End None) (bytes_end s.0 ∙ ap (Refused (End None)) (sym still)) (n - length input, s.1) t
  bytes-stop end_error device H before after remaining e still (inr (inl u)) (inr t) = by_device u
  bytes-stop end_error device H before after remaining e still (inr (inr d)) (inr t) = by_failure d.0 d.1 t

-- two facts of an error
pub both-of_err : {T E : Type 0} (r : Result T E) (P Q : E → Type 0) → IfErr r P → IfErr r Q → IfErr r (λ e. P e × Q e)
both-of_err (Ok v) P Q p q = tt
both-of_err (Err e) P Q p q = (p, q)
