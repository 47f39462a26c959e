use Rattle.std.proofs.lemmas.Result.{err_from_is_err_and}
use Rattle.bincode_lemmas.specs.RunLaws.{array-passed}
use Rattle.bincode_decoder.proofs.ReadAnswers.{claim-passed}
use Rattle.bincode_collections.proofs.Containers.{made-reads}
use Rattle.bincode_collections.proofs.sets_and_maps.decode_claimed.Goals as goal

pub returns-in_err-claim_container_read : goal.returns-in_err-claim_container_read
returns-in_err-claim_container_read g c =
    let p = err_from_is_err_and c.from_residual.result c.from_residual.ensures.1 in
    let h = c.in_err-claim_container_read.ensures.claimed.err in
    let kept = c.claim_container_read.ensures.kept in
    rw (p.1, p.2) (claim-passed kept _ h.1 (array-passed _ _ _ _ _ _ _ _ _ _ _ _ _ _ h.1 h.0 kept.same_remaining))

pub returns : goal.returns
returns g c =
    let read = c.decode_items.ensures in
    made-reads g.M.InsertAll.makes g.M.InsertAll.held_items c.claim_container_read.ensures.kept c.in_ok-claim_container_read.ensures.claimed.ok read.0 read.1 read.2
