use Rattle.std.proofs.Common.{inl, inr}
use Rattle.std.proofs.lemmas.Result.{err_from_is_err_and}
use Rattle.bincode_spec.specs.Floats.{with_fixed}
use Rattle.bincode_lemmas.specs.DecodingLaws.{charge_then-passed}
use Rattle.bincode_decoder.proofs.ReadAnswers.{claim-passed, charge_then-reads, integer-reads}
use Rattle.bincode_decoder.proofs.floats.decode_fixed.Goals as goal

pub returns-in_err-claim_bytes_read : goal.returns-in_err-claim_bytes_read
returns-in_err-claim_bytes_read g c =
    let p = err_from_is_err_and c.from_residual.result c.from_residual.ensures.1 in
    let h = rw (c.claim_size.ensures, c.requires) at c.in_err-claim_bytes_read.ensures.claimed.err in
    let kept = c.claim_bytes_read.ensures.kept in
    rw (p.1, p.2, g.T.Integer.spelling_laws.charged_first (with_fixed g.D.C.Config.setting))
    (integer-reads g.T.Integer.spelling.integer (claim-passed kept _ h.1 (charge_then-passed _ _ _ _ _ _ _ _ _ _ _ _ _ h.1 h.0 kept.same_remaining)) (inr h.1))

pub returns : goal.returns
returns g c =
    let read = c.read_fixed_from.ensures in
    let claim = rw (c.claim_size.ensures, c.requires) at c.in_ok-claim_bytes_read.ensures.claimed.ok in
    rw (g.T.Integer.spelling_laws.charged_first (with_fixed g.D.C.Config.setting))
    (integer-reads g.T.Integer.spelling.integer (charge_then-reads c.claim_bytes_read.ensures.kept _ claim read.word read.same_charge) (rw read.same_charge (inl claim)))
