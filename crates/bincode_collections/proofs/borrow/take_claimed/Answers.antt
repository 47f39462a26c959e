use Rattle.std.proofs.lemmas.Result.{err_from_is_err_and}
use Rattle.bincode_lemmas.specs.RunLaws.{array-passed}
use Rattle.bincode_decoder.proofs.ReadAnswers.{claim-passed}
use Rattle.bincode_decoder.proofs.Lending.{taken-run, claimed-room}
use Rattle.bincode_decoder.proofs.Rooms.{claimed-within}
use Rattle.bincode_collections.proofs.Containers.{array-reads}
use Rattle.bincode_collections.proofs.borrow.take_claimed.Goals as goal

pub returns-in_err-claim_container_read : goal.returns-in_err-claim_container_read
returns-in_err-claim_container_read g c =
    let p = err_from_is_err_and c.from_residual.result c.from_residual.ensures.1 in
    let h = c.in_err-claim_container_read.ensures.claimed.err in
    let kept = c.claim_container_read.ensures.kept in
    rw (p.1, p.2) (claim-passed kept _ h.1 (array-passed _ _ _ _ _ _ _ _ _ _ _ _ _ _ h.1 h.0 kept.same_remaining))

pub returns : goal.returns
returns g c =
    let claim = c.in_ok-claim_container_read.ensures.claimed.ok in
    array-reads c.claim_container_read.ensures.kept claim (taken-run (claimed-within _ _ _ _ claim) (claimed-room _ _ _ _ claim) c.take_bytes.ensures.takes c.take_bytes.ensures.same_charge)
