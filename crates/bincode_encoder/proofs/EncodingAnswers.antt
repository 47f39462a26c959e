-- `Encodes` of a whole, from `Encodes` of its pieces.
use Rattle.std.specs.Prelude.{◌≡◌, ◌⊎◌, ℕ, ◌<◌, ℤ, List, [], ◌++◌, Result, Ok, Err, OnOk, IfErr}
use Rattle.std.specs.Borrow.{GName}
use Rattle.std.proofs.Common.{◌∙◌}
use Rattle.std.proofs.lemmas.Result.{IfErr-weaker, on_ok_weaker}
use Rattle.bincode_base.specs.declared.error.IntegerType.{IntegerType}
use Rattle.bincode_base.specs.declared.error.EncodeError.{EncodeError}
use Rattle.bincode_spec.specs.Format.{Format, map_format}
use Rattle.bincode_spec.specs.Meaning.{Number, IsNumber}
use Rattle.bincode_spec.specs.Words.{not_zero_by}
use Rattle.bincode_spec.specs.Allowed.{AllowedWord}
use Rattle.bincode_lemmas.specs.Sequences.{Both}
use Rattle.bincode_lemmas.specs.AllowedLaws.{not_zero-allows, allowed-not_zero}
use Rattle.bincode_spec.specs.Encoding.{Adds, Refuses, IsReady, Encodes}
use Rattle.bincode_lemmas.specs.EncodingLaws.{writes-alone, writes-both, writes-same, halts-alone, halts-within, halts-same, halts-named, halts-where, halts-in_first, halts-in_next, ready-as}

-- writes in turn are one write
abbrev pub Joined : {W : Type 0} → Adds W → Type 0
Joined {W} adds = (a b c : W) (x y : List ℕ) → adds a x b → adds b y c → adds a (x ++ y) c

module _ {E W : Type 0} {adds : Adds W} {refuses : Refuses W} {writer_of : E → W} {loans : E → List GName} {old new : E} {T R : Type 0}
    {A : List ℕ → Type 0} {N : EncodeError → Type 0} {r : Result T EncodeError} where
  -- one piece is the whole word
  pub piece-encodes : {piece : List ℕ} → ((w : W) → adds w [] w) → IsReady R A piece → OnOk r (adds (writer_of old) piece (writer_of new)) →
      IfErr r (λ e. refuses (writer_of old) piece e (writer_of new)) → loans new ≡ loans old → Encodes adds refuses writer_of loans R A N r old new
  piece-encodes {piece = piece} none a ok err same = record {
    ok = on_ok_weaker r (writes-alone adds A piece _ _ a.is_allowed) ok;
    err = IfErr-weaker r _ _ (λ e h. halts-alone adds refuses none (IsReady R A) piece a N _ _ e h) err;
    same_loans = same;
  }

  -- equal words, fewer conditions of writing, and more errors
  pub encodes-as : {S : Type 0} {B : List ℕ → Type 0} {M : EncodeError → Type 0} → ((bytes : List ℕ) → A bytes → B bytes) →
      ((bytes : List ℕ) → B bytes → A bytes) → (S → R) → ((e : EncodeError) → N e → M e) →
      Encodes adds refuses writer_of loans R A N r old new → Encodes adds refuses writer_of loans S B M r old new
  encodes-as {S = S} {B = B} {M = M} to from can more w = record {
    ok = on_ok_weaker r (writes-same adds A B _ _ to) w.ok;
    err = IfErr-weaker r _ _ (λ e h. halts-where adds refuses R S B can M _ _ e
        (halts-same adds refuses (IsReady R A) (IsReady R B) M _ _ e (ready-as R A B to) (ready-as R B A from) (halts-named adds refuses (IsReady R A) N M _ _ e (more e) h))) w.err;
    same_loans = w.same_loans;
  }

  -- words among others: one of these is allowed if one of those is
  pub encodes-within : {B : List ℕ → Type 0} → ((bytes : List ℕ) → A bytes → B bytes) → ((bytes : List ℕ) → B bytes → (word : List ℕ) × A word) →
      Encodes adds refuses writer_of loans R A N r old new → Encodes adds refuses writer_of loans R B N r old new
  encodes-within {B = B} to from w = record {
    ok = on_ok_weaker r (writes-same adds A B _ _ to) w.ok;
    err = IfErr-weaker r _ _ (λ e h. halts-within adds refuses (IsReady R A) (IsReady R B) N _ _ e (ready-as R A B to)
        (λ bytes b. let a = from bytes b.is_allowed in (a.0, record { is_writable = b.is_writable; is_allowed = a.1 })) h) w.err;
    same_loans = w.same_loans;
  }

-- A whole whose words are those of two parts in turn, and which can be written if they can.
module _ {R S U : Type 0} (pair : R → S → U) (split : U → R × S) {A B C : List ℕ → Type 0} (to : (bytes : List ℕ) → Both A B bytes → C bytes)
    (from : (bytes : List ℕ) → C bytes → Both A B bytes) {N M K : EncodeError → Type 0} (more : (e : EncodeError) → N e ⊎ M e → K e)
    {E W T V : Type 0} {adds : Adds W} {refuses : Refuses W} {writer_of : E → W} {loans : E → List GName} {old new : E} where
  -- if encoding the first part fails, so does the whole
  pub first-halts : {e : EncodeError} → Encodes {T = T} adds refuses writer_of loans R A N (Err e) old new → Encodes {T = V} adds refuses writer_of loans U C K (Err e) old new
  first-halts {e} w = record { ok = tt; err = halts-in_first pair split to from adds refuses N M K e (more e) _ _ w.err; same_loans = w.same_loans }

  -- after its first part it is encoded as the second
  pub next-encodes : {t : T} {r : Result V EncodeError} {between : E} → Joined adds → Encodes adds refuses writer_of loans R A N (Ok t) old between →
      Encodes adds refuses writer_of loans S B M r between new → Encodes adds refuses writer_of loans U C K r old new
  next-encodes {r = r} join first next = record {
    ok = on_ok_weaker r (λ h. writes-same adds (Both A B) C _ _ to (writes-both adds join A B _ _ _ first.ok h)) next.ok;
    err = IfErr-weaker r _ _ (λ e h. halts-in_next pair split to from adds refuses N M K e (more e) join _ _ _ first.ok h) next.err;
    same_loans = next.same_loans ∙ first.same_loans;
  }

-- a `NonZero` number is written as the number
pub not_zero-encodes :
    {A : Type 0} (integer : A → ℤ) (one : (a b : A) → integer a ≡ integer b → a ≡ b) (size : A → ℕ) (name : IntegerType) (F : Format A) {a : A} →
    0 < size a →
    {E W T R : Type 0} {adds : Adds W} {refuses : Refuses W} {writer_of : E → W} {loans : E → List GName} {old new : E} {N : EncodeError → Type 0} {r : Result T EncodeError} →
    Encodes adds refuses writer_of loans R (AllowedWord (IsNumber (integer a)) (map_format (λ k. Number (integer k)) F)) N r old new →
    Encodes adds refuses writer_of loans R (AllowedWord (IsNumber (integer a)) (map_format (λ k. Number (integer k)) (not_zero_by size name F))) N r old new
not_zero-encodes integer one size name F {a} h = encodes-as (λ bytes. not_zero-allows integer one size name F bytes a h) (λ bytes. allowed-not_zero integer one size name F bytes a) (λ w. w) (λ e n. n)
