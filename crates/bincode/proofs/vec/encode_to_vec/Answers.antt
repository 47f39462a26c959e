use Rattle.std.proofs.lemmas.Result.{err_from_is_err_and}
use Rattle.std.proofs.Common.{inr}
use Rattle.bincode.proofs.Counted.{halted-named}
use Rattle.bincode.proofs.Empty.{counted-empty}
use Rattle.bincode.proofs.vec.encode_to_vec.Goals as goal

pub returns-in_err-encode_with-clause-fault : goal.returns-in_err-encode_with-clause-fault
returns-in_err-encode_with-clause-fault g c =
    let p = err_from_is_err_and c.from_residual.result c.from_residual.ensures.1 in
    rw (p.1, p.2) (inr (halted-named _ _ _ _ _ c.in_err-encode_with.ensures.err))

pub returns-in_err-encode_with-clause-empty : goal.returns-in_err-encode_with-clause-empty
returns-in_err-encode_with-clause-empty g c =
    let p = err_from_is_err_and c.from_residual.result c.from_residual.ensures.1 in
    λ one empty. rw (p.1, p.2) (halted-named _ _ _ _ _ c.in_err-encode_with.ensures.err)

pub returns-clause-empty : goal.returns-clause-empty
returns-clause-empty g c = λ one empty.
    c.encode_in_room.ensures.empty (counted-empty _ _ _ _ c.default-counter.ensures c.in_ok-encode_with.ensures.ok one empty) one empty
