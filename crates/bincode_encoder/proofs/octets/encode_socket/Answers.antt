use Rattle.std.proofs.Common.{inl, inr}
use Rattle.std.proofs.lemmas.Result.{err_from_is_err_and}
use Rattle.bincode_lemmas.specs.AllowedLaws.{pair-allows, allowed-pair}
use Rattle.bincode_encoder.proofs.EncodingAnswers.{first-halts, next-encodes}
use Rattle.bincode_encoder.proofs.octets.encode_socket.Goals as goal

pub returns-in_err-encode_octets : goal.returns-in_err-encode_octets
returns-in_err-encode_octets g c =
    let p = err_from_is_err_and c.from_residual.result c.from_residual.ensures.1 in
    rw (p.1, p.2)
    (first-halts {R = Unit {0}} {S = Unit {0}} {U = Unit {0}} (λ _ _. tt) (λ _. (tt, tt)) (pair-allows _ _ _ _) (allowed-pair _ _ _ _) {M = λ _. ⊥}
    (λ e. elim [ inl k ↦ k | inr k ↦ k ]) c.in_err-encode_octets.ensures)

pub returns : goal.returns
returns g c =
    next-encodes {R = Unit {0}} {S = Unit {0}} {U = Unit {0}} (λ _ _. tt) (λ _. (tt, tt)) (pair-allows _ _ _ _) (allowed-pair _ _ _ _) {M = λ _. ⊥}
    (λ e. elim [ inl k ↦ k | inr k ↦ k ]) g.met.E.W.Writer.adds_join c.in_ok-encode_octets.ensures c.encode_integer.ensures
