use Rattle.std.specs.Prelude.{ℕ, List}
use Rattle.std.proofs.Common.{inl, inr}
use Rattle.std.proofs.lemmas.Result.{err_from_is_err_and}
use Rattle.bincode_spec.specs.Format.{Format}
use Rattle.bincode_spec.specs.Meaning.{Meaning}
use Rattle.bincode_spec.specs.Allowed.{AllowedWord, WrittenAlike}
use Rattle.bincode_spec.specs.Layers.Meanings.{SameMeanings}
use Rattle.bincode_lemmas.specs.ChoiceLaws.{choice-allows, allowed-choice}
use Rattle.bincode_encoder.proofs.EncodingAnswers.{encodes-as, first-halts, next-encodes}
use Rattle.bincode_enums.proofs.encode.encode_variant.Goals as goal

-- equal meanings allow the same words
allows-as : {P Q : Meaning → Type 0} {F G : Format Meaning} → WrittenAlike G F → SameMeanings P Q → (bytes : List ℕ) → AllowedWord P F bytes → AllowedWord Q G bytes
allows-as e same bytes w = record { meaning = w.meaning; is_meant = same.0 w.meaning w.is_meant; is_written = e.1 bytes w.meaning w.is_written }

allows-back : {P Q : Meaning → Type 0} {F G : Format Meaning} → WrittenAlike G F → SameMeanings P Q → (bytes : List ℕ) → AllowedWord Q G bytes → AllowedWord P F bytes
allows-back e same bytes w = record { meaning = w.meaning; is_meant = same.1 w.meaning w.is_meant; is_written = e.0 bytes w.meaning w.is_written }

pub returns-in_err-encode_tag : goal.returns-in_err-encode_tag
returns-in_err-encode_tag g c =
    let p = err_from_is_err_and c.from_residual.result c.from_residual.ensures.1 in
    let alike = c.requires.picks in
    let e = g.met.T.Enum.laws.written g.E.C.Config.setting in
    rw (p.1, p.2)
    (encodes-as (allows-as e c.requires.means) (allows-back e c.requires.means) c.requires.writable (λ e n. n)
    (first-halts {R = Unit {0}} (λ _ r. r) (λ r. (tt, r)) (choice-allows _ _ _ _ _ alike _) (allowed-choice _ _ _ _ _ alike _) {M = g.A.Wire.words.own_errors}
    (λ e. elim [ inl k ↦ absurd k | inr k ↦ c.requires.own_errors e k ]) c.in_err-encode_tag.ensures))

pub returns : goal.returns
returns g c =
    let alike = c.requires.picks in
    let e = g.met.T.Enum.laws.written g.E.C.Config.setting in
    encodes-as (allows-as e c.requires.means) (allows-back e c.requires.means) c.requires.writable (λ e n. n)
    (next-encodes {R = Unit {0}} (λ _ r. r) (λ r. (tt, r)) (choice-allows _ _ _ _ _ alike _) (allowed-choice _ _ _ _ _ alike _)
    (λ e. elim [ inl k ↦ absurd k | inr k ↦ c.requires.own_errors e k ]) g.met.E.W.Writer.adds_join c.in_ok-encode_tag.ensures c.encode.ensures)
