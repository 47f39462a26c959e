-- A cell is written as what it holds.
use Rattle.std.specs.Prelude.{◌⊎◌, ℕ, List, ◌++◌, Result}
use Rattle.std.specs.Borrow.{GName}
use Rattle.std.proofs.Common.{inl, inr}
use Rattle.std.proofs.lemmas.Result.{IfErr-weaker, on_ok_weaker}
use Rattle.bincode_base.specs.declared.error.EncodeError.{EncodeError}
use Rattle.bincode_spec.specs.Format.{Format, of_cell}
use Rattle.bincode_spec.specs.Layers.Laws.{IsLawful}
use Rattle.bincode_spec.specs.Meaning.{Meaning}
use Rattle.bincode_spec.specs.Allowed.{AllowedWord, SomeWord}
use Rattle.bincode_spec.specs.Cells.{IsAny}
use Rattle.bincode_lemmas.specs.CellLaws.{cell-allows}
use Rattle.bincode_spec.specs.Encoding.{Adds, Refuses, Writes, IsReady, Begins, IsOwn, EncodeFailure, Encodes, by_writer, by_name}
use Rattle.bincode_lemmas.specs.EncodingLaws.{writes-same}

module _ (F : Format Meaning) (f : IsLawful F) (P : Meaning → Type 0) {W : Type 0} (adds : Adds W) where
  -- a word of the inner value is one of the cell
  held_writes : (before after : W) → Writes adds (AllowedWord P F) before after → Writes adds (AllowedWord IsAny (of_cell F)) before after
  held_writes before after w = writes-same adds _ _ before after (cell-allows F f P) w

  module _ (R S : Type 0) (inner : S → R) (has_word : R → SomeWord (AllowedWord P F)) where
    held_begins : (bytes : List ℕ) → Begins (IsReady R (AllowedWord P F)) bytes → Begins (IsReady S (AllowedWord IsAny (of_cell F))) bytes
    held_begins bytes b some h =
        let r = inner h.is_writable in
        let w = has_word r in
        let m = b w.bytes (record { is_writable = r; is_allowed = w.is_allowed }) in
        (m.0, record { is_writable = h.is_writable; is_allowed = cell-allows F f P (bytes ++ m.0) m.1.is_allowed })

    own_or_held : (front : List ℕ) (e : EncodeError) → IsOwn e ⊎ Begins (IsReady R (AllowedWord P F)) front → IsOwn e ⊎ Begins (IsReady S (AllowedWord IsAny (of_cell F))) front
    own_or_held front e (inl o) = inl o
    own_or_held front e (inr b) = inr (held_begins front b)

    -- a prefix of such a word is a prefix of one of the cell
    held_halts : (refuses : Refuses W) (N M : EncodeError → Type 0) → ((e : EncodeError) → N e → M e) → (before after : W) (e : EncodeError) →
        EncodeFailure adds refuses (IsReady R (AllowedWord P F)) N before after e →
        EncodeFailure adds refuses (IsReady S (AllowedWord IsAny (of_cell F))) M before after e
    held_halts refuses N M more before after e (by_writer front piece middle h r b) = by_writer front piece middle h r (held_begins (front ++ piece) b)
    held_halts refuses N M more before after e (by_name front h n b) = by_name front h (more e n) (own_or_held front e b)

-- encoding the inner value encodes the cell
pub held-encodes :
    {F : Format Meaning} (f : IsLawful F) {P : Meaning → Type 0} {R S : Type 0} (inner : S → R) (has_word : R → SomeWord (AllowedWord P F))
    {E W T : Type 0} {adds : Adds W} {refuses : Refuses W} {writer_of : E → W} {loans : E → List GName} {N M : EncodeError → Type 0}
    (more : (e : EncodeError) → N e → M e) {r : Result T EncodeError} {old new : E} →
    Encodes adds refuses writer_of loans R (AllowedWord P F) N r old new → Encodes adds refuses writer_of loans S (AllowedWord IsAny (of_cell F)) M r old new
held-encodes {F} f {P} {R} {S} inner has_word {adds = adds} {refuses = refuses} {N = N} {M = M} more {r} w = record {
  ok = on_ok_weaker r (held_writes F f P adds _ _) w.ok;
  err = IfErr-weaker r _ _ (held_halts F f P adds R S inner has_word refuses N M more _ _) w.err;
  same_loans = w.same_loans;
}
