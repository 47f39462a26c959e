use Rattle.std.specs.Prelude.{◌≡◌, refl}
use Rattle.std.proofs.Common.{inl, inr}
use Rattle.std.proofs.lemmas.Result.{err_from_is_err_and}
use Rattle.bincode_lemmas.specs.TextLaws.{text-allows, allowed-text}
use Rattle.bincode_lemmas.specs.EncodingLaws.{ready_word}
use Rattle.bincode_encoder.proofs.EncodingAnswers.{piece-encodes, first-halts, next-encodes}
use Rattle.bincode_encoder.proofs.texts.encode_text.Goals as goal

pub returns-in_err-encode_length : goal.returns-in_err-encode_length
returns-in_err-encode_length g c =
    let p = err_from_is_err_and c.from_residual.result c.from_residual.ensures.1 in
    let s = g.E.C.Config.setting in
    let utf8 = rw c.as_bytes-bytes.ensures.value at c.as_bytes-bytes.ensures.utf8 in
    let first = rw c.as_bytes-bytes.ensures.value at c.in_err-encode_length.ensures in
    rw (p.1, p.2)
    (first-halts {R = Unit {0}} {S = Unit {0}} {U = Unit {0}} (λ _ _. tt) (λ _. (tt, tt)) (λ word. text-allows s _ word utf8) (allowed-text s _) {M = λ _. ⊥}
    (λ e. elim [ inl k ↦ k | inr k ↦ k ]) first)

pub returns : goal.returns
returns g c =
    let s = g.E.C.Config.setting in
    let utf8 = rw c.as_bytes-bytes.ensures.value at c.as_bytes-bytes.ensures.utf8 in
    let first = rw c.as_bytes-bytes.ensures.value at c.in_ok-encode_length.ensures in
    let write = rw c.as_bytes-bytes.ensures.value at c.write_from.ensures in
    let bytes = piece-encodes g.met.E.W.Writer.adds_none (ready_word (λ b. b ≡ c.args.val.now) _ refl) write.ok write.err write.same_loans in
    next-encodes {R = Unit {0}} {S = Unit {0}} {U = Unit {0}} (λ _ _. tt) (λ _. (tt, tt)) (λ word. text-allows s _ word utf8) (allowed-text s _) {M = λ _. ⊥}
    (λ e. elim [ inl k ↦ k | inr k ↦ k ]) g.met.E.W.Writer.adds_join first bytes
