-- What a size writer counted is the length of each word, and one that fails has a word that is too long for its count.
use Rattle.std.specs.Prelude.{◌≡◌, ◌+◌, ◌-◌, ◌^◌, ◌<◌, ◌≤◌, ◌++◌, ℕ, List, length}
use Rattle.std.proofs.Common.{◌∙◌, arith, length-append}
use Rattle.bincode_base.specs.declared.error.EncodeError.{EncodeError}
use Rattle.bincode_base.specs.declared.error.EncodeError.TheVariants.{UnexpectedEnd}
use Rattle.bincode_spec.specs.Allowed.{OneLength}
use Rattle.bincode_spec.specs.Encoding.{Writes, EncodeFailure, by_writer, by_name, IsReady}
use Rattle.bincode.specs.Short.{TooShort}
use Rattle.bincode_io.specs.declared.size_writer.SizeWriter.{SizeWriter}

pub counted-length : (A : List ℕ → Type 0) → OneLength A → (before after : SizeWriter) → before.bytes_written ≡ 0 →
    Writes (λ (a : SizeWriter) piece (b : SizeWriter). (b.bytes_written ≡ a.bytes_written + length piece) × (length piece ≤ 2 ^ 64 - 1 - a.bytes_written)) A before after →
    (n : ℕ) → n ≡ after.bytes_written → (word : List ℕ) → A word → length word ≡ n
counted-length A one before after start w n is word a =
    let added = w.added.0 in
    let counted : length w.word ≡ n = omega (arith, added, start, is) in
    one word w.word a w.is_allowed ∙ counted

pub counted-short : (R : Type 0) (A : List ℕ → Type 0) (N : EncodeError → Type 0) → OneLength A → ((e : EncodeError) → N e → ⊥) → R → (before after : SizeWriter) → before.bytes_written ≡ 0 → (e : EncodeError) →
    EncodeFailure (λ (a : SizeWriter) piece (b : SizeWriter). (b.bytes_written ≡ a.bytes_written + length piece) × (length piece ≤ 2 ^ 64 - 1 - a.bytes_written))
    (λ (a : SizeWriter) piece e (b : SizeWriter). (e ≡ UnexpectedEnd) × (2 ^ 64 - 1 - a.bytes_written < length piece) × (b ≡ a)) (IsReady R A) N before after e →
    TooShort A (2 ^ 64 - 1) e
counted-short R A N one none r before after start e (by_writer front piece middle added refused begins) = (
  refused.0,
  λ word a.
      let more = begins word (record { is_writable = r; is_allowed = a }) in
      let same : length ((front ++ piece) ++ more.0) ≡ length word = one _ word more.1.is_allowed a in
      let all = length-append (front ++ piece) more.0 in
      let parts = length-append front piece in
      let long = refused.1 in
      let counted = added.0 in
      omega arith,
)
counted-short R A N one none r before after start e (by_name front added names begins) = absurd (none e names)
