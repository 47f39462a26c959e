use Rattle.std.proofs.lemmas.Result.{err_from_is_err_and}
use Rattle.bincode_collections.proofs.MadeAnswers.{read-made, read-failed}
use Rattle.bincode_collections.proofs.lists.decode_queue.Goals as goal

pub returns-in_err-list-clause-read : goal.returns-in_err-list-clause-read
returns-in_err-list-clause-read g c =
    let p = err_from_is_err_and c.from_residual.result c.from_residual.ensures.1 in
    rw (p.1, p.2) (read-failed c.in_err-list.ensures.read)

pub returns-clause-read : goal.returns-clause-read
returns-clause-read g c = read-made (λ m h. rw c.from.ensures.0 h.0) c.in_ok-list.ensures.read
