-- A word that was decoded again is one that the store takes.
use Rattle.std.specs.Prelude.{◌≡◌, ◌≤◌, ℕ, List, [], length, Option, Err}
use Rattle.std.proofs.Common.{◌∙◌, sym, subst, append-nil}
use Rattle.bincode_base.specs.Setting.{Setting}
use Rattle.bincode_base.specs.declared.error.DecodeError.{DecodeError}
use Rattle.bincode_base.specs.declared.error.DecodeError.TheVariants as decoding
use Rattle.bincode_spec.specs.Allowed.{AllowedWord}
use Rattle.bincode_spec.specs.Charge.{StaysWithin}
use Rattle.bincode_spec.specs.Meaning.{Meaning}
use Rattle.bincode_spec.specs.Slice.{IsDecoded, FindsWords}
use Rattle.bincode_lemmas.specs.FormatLaws.{one-word}
use Rattle.bincode_types.specs.TypeWords.{Words}
use Rattle.framed_store.specs.Appended.{IsFitting, FitsStore}

-- a word that is read within the limit stays within it
pub read-fitting : {A : Type 0} (W : Words A) (s : Setting) (limit : Option ℕ) (most : ℕ) (v : A) (word : List ℕ) → W.valid v → AllowedWord (W.means v) (W.format s) word → length word ≤ most →
    (DecodesTo : Meaning → Type 0) (n : ℕ) → IsDecoded (W.format s) limit word DecodesTo n → IsFitting W s limit most v word
read-fitting W s limit most v word valid allowed short DecodesTo n d = record {
  is_entry = record {
    is_valid = valid;
    is_written = allowed;
    is_within = λ m steps w.
        let one = one-word (W.lawful s) word d.word [] d.remaining m d.meaning steps d.steps w d.is_word (append-nil word ∙ d.input_is) in
        subst (StaysWithin limit 0) (sym one.2) d.within;
  };
  is_short = short;
}

-- if words fit the limit, decoding one again fails only with `Memory`
pub read-memory : {A : Type 0} (W : Words A) (s : Setting) (limit : Option ℕ) (most : ℕ) (v : A) (word : List ℕ) → AllowedWord (W.means v) (W.format s) word → (MayAllocate : Type 0) (e : DecodeError) →
    FindsWords {A = Unit {0}} (W.format s) limit MayAllocate word (Err e) → FitsStore W s limit most v → e ≡ decoding.Memory
read-memory W s limit most v word allowed MayAllocate e found fits =
    let u = (W.lawful s).written_is_word word allowed.meaning allowed.is_written in
    (found word [] allowed.meaning u.0 (sym (append-nil word)) u.1 ((fits word allowed).0 allowed.meaning u.0 u.1)).1
