use Rattle.std.proofs.Common.{sym, ◌∙◌}
use Rattle.std.proofs.lemmas.Result.{err_from_is_err_and}
use Rattle.bincode_lemmas.specs.RunLaws.{array-passed}
use Rattle.bincode_decoder.proofs.ReadAnswers.{claim-passed}
use Rattle.bincode_collections.proofs.Containers.{array-reads, both_ok}
use Rattle.bincode_collections.proofs.lists.decode_claimed.Goals as goal

pub returns-in_err-claim_container_read-clause-read : goal.returns-in_err-claim_container_read-clause-read
returns-in_err-claim_container_read-clause-read g c =
    let p = err_from_is_err_and c.from_residual.result c.from_residual.ensures.1 in
    let h = c.in_err-claim_container_read.ensures.claimed.err in
    let kept = c.claim_container_read.ensures.kept in
    rw (p.1, p.2) (claim-passed kept _ h.1 (array-passed _ _ _ _ _ _ _ _ _ _ _ _ _ _ h.1 h.0 kept.same_remaining))

pub returns-clause-room : goal.returns-clause-room
returns-clause-room g c = both_ok c.decode_vec.result _ _ _ (λ v room length. room ∙ sym length) c.decode_vec.ensures.room c.decode_vec.ensures.length

pub returns-clause-read : goal.returns-clause-read
returns-clause-read g c =
    array-reads c.claim_container_read.ensures.kept c.in_ok-claim_container_read.ensures.claimed.ok c.decode_vec.ensures.read
