use Rattle.std.proofs.lemmas.Result.{err_from_is_err_and}
use Rattle.bincode_lemmas.specs.DecodingLaws.{charge_then-passed}
use Rattle.bincode_decoder.proofs.ReadAnswers.{claim-passed, charge_then-reads}
use Rattle.bincode_decoder.proofs.Lending.{taken-reads}
use Rattle.bincode_decoder.proofs.borrow.take_claimed.Goals as goal

pub returns-in_err-claim_bytes_read : goal.returns-in_err-claim_bytes_read
returns-in_err-claim_bytes_read g c =
    let p = err_from_is_err_and c.from_residual.result c.from_residual.ensures.1 in
    let h = c.in_err-claim_bytes_read.ensures.claimed.err in
    let kept = c.claim_bytes_read.ensures.kept in
    rw (p.1, p.2) (claim-passed kept _ h.1 (charge_then-passed _ _ _ _ _ _ _ _ _ _ _ _ _ h.1 h.0 kept.same_remaining))

pub returns : goal.returns
returns g c =
    charge_then-reads c.claim_bytes_read.ensures.kept _ c.in_ok-claim_bytes_read.ensures.claimed.ok (taken-reads c.args.count c.take_bytes.ensures.takes) c.take_bytes.ensures.same_charge
