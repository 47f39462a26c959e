use Rattle.std.proofs.Common.{inl, inr}
use Rattle.std.proofs.lemmas.Result.{err_from_is_err_and}
use Rattle.bincode_lemmas.specs.AllowedLaws.{pair-allows, allowed-pair}
use Rattle.bincode_encoder.proofs.EncodingAnswers.{first-halts, next-encodes}
use Rattle.bincode_encoder.proofs.ordered.encode_pair.Goals as goal

pub returns-in_err-write_value : goal.returns-in_err-write_value
returns-in_err-write_value g c =
    let p = err_from_is_err_and c.from_residual.result c.from_residual.ensures.1 in
    let s = g.E.C.Config.setting in
    rw (p.1, p.2)
    (first-halts {R = g.K.Value.Wire.words.writable s c.args.key.now} {S = g.V.Value.Wire.words.writable s c.args.value.now} (λ r t. (r, (t, tt))) (λ u. (u.0, u.1.0))
    (pair-allows _ _ _ _) (allowed-pair _ _ _ _)
    {M = g.V.Value.Wire.words.own_errors} (λ e. elim [ inl k ↦ inl k | inr k ↦ inr (inl k) ]) c.in_err-write_value.ensures)

pub returns : goal.returns
returns g c =
    let s = g.E.C.Config.setting in
    next-encodes {R = g.K.Value.Wire.words.writable s c.args.key.now} {S = g.V.Value.Wire.words.writable s c.args.value.now} (λ r t. (r, (t, tt))) (λ u. (u.0, u.1.0))
    (pair-allows _ _ _ _) (allowed-pair _ _ _ _)
    {M = g.V.Value.Wire.words.own_errors} (λ e. elim [ inl k ↦ inl k | inr k ↦ inr (inl k) ]) g.met.E.W.Writer.adds_join c.in_ok-write_value.ensures c.write_value-2.ensures
