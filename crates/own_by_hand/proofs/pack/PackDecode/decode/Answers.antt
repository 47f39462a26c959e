use Rattle.std.proofs.lemmas.Result.{err_from_is_err_and}
use Rattle.bincode_lemmas.specs.RunLaws.{array-passed}
use Rattle.bincode_decoder.proofs.ReadAnswers.{claim-passed}
use Rattle.bincode_collections.proofs.Containers.{array-reads, length-stops, length-reads}
use Rattle.own_by_hand.proofs.LengthReads.{length-read}
use Rattle.own_by_hand.proofs.pack.PackDecode.decode.Goals as goal

pub returns-in_err-len : goal.returns-in_err-len
returns-in_err-len g c =
    let p = err_from_is_err_and c.from_residual.result c.from_residual.ensures.1 in
    rw (p.1, p.2) (length-stops g.D.C.Config.setting _ _ (length-read _ c.in_err-len.ensures))

pub returns-in_err-claim_container_read : goal.returns-in_err-claim_container_read
returns-in_err-claim_container_read g c =
    let p = err_from_is_err_and c.from_residual-in_err-claim_container_read.result c.from_residual-in_err-claim_container_read.ensures.1 in
    let h = c.in_err-claim_container_read.ensures.claimed.err in
    let kept = c.claim_container_read.ensures.kept in
    rw (p.1, p.2) (length-reads g.D.C.Config.setting _ _ (length-read _ c.in_ok-len.ensures)
    (claim-passed kept _ h.1 (array-passed _ _ _ _ _ _ _ _ _ _ _ _ _ _ h.1 h.0 kept.same_remaining)))

pub returns : goal.returns
returns g c =
    length-reads g.D.C.Config.setting _ _ (length-read _ c.in_ok-len.ensures)
    (array-reads c.claim_container_read.ensures.kept c.in_ok-claim_container_read.ensures.claimed.ok c.decode_claimed.ensures)
