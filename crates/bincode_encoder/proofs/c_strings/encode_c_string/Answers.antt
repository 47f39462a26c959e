use Rattle.std.specs.Prelude.{◌≡◌, refl}
use Rattle.std.proofs.Common.{inl, inr}
use Rattle.std.proofs.lemmas.Result.{err_from_is_err_and}
use Rattle.bincode_lemmas.specs.TextLaws.{c_string-allows, allowed-c_string}
use Rattle.bincode_lemmas.specs.EncodingLaws.{ready_word}
use Rattle.bincode_types.specs.CStrings.{c_str_bytes}
use Rattle.bincode_encoder.proofs.EncodingAnswers.{piece-encodes, first-halts, next-encodes}
use Rattle.bincode_encoder.proofs.c_strings.encode_c_string.Goals as goal

pub returns-in_err-encode_length : goal.returns-in_err-encode_length
returns-in_err-encode_length g c =
    let p = err_from_is_err_and c.from_residual.result c.from_residual.ensures.1 in
    let s = g.E.C.Config.setting in
    let no_zero = rw c.to_bytes-bytes.ensures.bytes at c.to_bytes-bytes.ensures.without_zero in
    let first = rw c.to_bytes-bytes.ensures.bytes at c.in_err-encode_length.ensures in
    rw (p.1, p.2)
    (first-halts {R = Unit {0}} {S = Unit {0}} {U = Unit {0}} (λ _ _. tt) (λ _. (tt, tt)) (λ word. c_string-allows s _ word no_zero) (allowed-c_string s _) {M = λ _. ⊥}
    (λ e. elim [ inl k ↦ k | inr k ↦ k ]) first)

pub returns : goal.returns
returns g c =
    let s = g.E.C.Config.setting in
    let no_zero = rw c.to_bytes-bytes.ensures.bytes at c.to_bytes-bytes.ensures.without_zero in
    let first = rw c.to_bytes-bytes.ensures.bytes at c.in_ok-encode_length.ensures in
    let write = rw c.to_bytes-bytes.ensures.bytes at c.write_from.ensures in
    let bytes = piece-encodes g.met.E.W.Writer.adds_none (ready_word (λ b. b ≡ c_str_bytes c.args.val) _ refl) write.ok write.err write.same_loans in
    next-encodes {R = Unit {0}} {S = Unit {0}} {U = Unit {0}} (λ _ _. tt) (λ _. (tt, tt)) (λ word. c_string-allows s _ word no_zero) (allowed-c_string s _) {M = λ _. ⊥}
    (λ e. elim [ inl k ↦ k | inr k ↦ k ]) g.met.E.W.Writer.adds_join first bytes
