use Rattle.std.proofs.Common.{inl, inr, pos}
use Rattle.std.proofs.lemmas.Result.{err_from_is_err_and}
use Rattle.bincode_spec.specs.Integers.{unsigned_byte}
use Rattle.bincode_lemmas.specs.DecodingLaws.{charge_then-passed}
use Rattle.bincode_decoder.proofs.ReadAnswers.{claim-passed, charge_then-reads, integer-reads}
use Rattle.bincode_decoder.proofs.integers.decode_byte.Goals as goal

pub returns-in_err-claim_bytes_read : goal.returns-in_err-claim_bytes_read
unfolding unsigned_byte
returns-in_err-claim_bytes_read g c =
    let p = err_from_is_err_and c.from_residual.result c.from_residual.ensures.1 in
    let h = c.in_err-claim_bytes_read.ensures.claimed.err in
    let kept = c.claim_bytes_read.ensures.kept in
    rw (p.1, p.2) (integer-reads pos (claim-passed kept _ h.1 (charge_then-passed _ _ _ _ _ _ _ _ _ _ _ _ _ h.1 h.0 kept.same_remaining)) (inr h.1))

pub returns : goal.returns
unfolding unsigned_byte
returns g c =
    let read = c.read_byte_from.ensures in
    let claim = c.in_ok-claim_bytes_read.ensures.claimed.ok in
    integer-reads pos (charge_then-reads c.claim_bytes_read.ensures.kept _ claim read.word read.same_charge) (rw read.same_charge (inl claim))
