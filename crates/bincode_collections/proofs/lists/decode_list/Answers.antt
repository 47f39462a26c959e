use Rattle.std.proofs.lemmas.Result.{err_from_is_err_and}
use Rattle.bincode_decoder.proofs.PartAnswers.{reads-besides}
use Rattle.bincode_decoder.proofs.Refusals.{none-refused, some-refused}
use Rattle.bincode_collections.proofs.Containers.{length-stops, length-reads, reads-with}
use Rattle.bincode_collections.proofs.lists.decode_list.Goals as goal

pub returns-in_err-len-clause-read : goal.returns-in_err-len-clause-read
returns-in_err-len-clause-read g c =
    let p = err_from_is_err_and c.from_residual.result c.from_residual.ensures.1 in
    rw (p.1, p.2) (length-stops g.D.C.Config.setting _ _ c.in_err-len.ensures.reads)

pub returns-in_err-len-clause-memory : goal.returns-in_err-len-clause-memory
returns-in_err-len-clause-memory g c =
    let p = err_from_is_err_and c.from_residual.result c.from_residual.ensures.1 in
    rw (p.1, p.2) (none-refused g.D.C.Config.setting c.in_err-len.ensures.reads)

pub returns-clause-read : goal.returns-clause-read
returns-clause-read g c =
    let claimed = reads-with c.decode_claimed.result (λ m v given room. (given, room)) c.decode_claimed.ensures.room c.decode_claimed.ensures.read in
    length-reads g.D.C.Config.setting _ _ c.in_ok-len.ensures.reads (reads-besides _ (λ _. tt) claimed)

pub returns-clause-memory : goal.returns-clause-memory
returns-clause-memory g c = some-refused g.D.C.Config.setting c.decode_claimed.result c.in_ok-len.ensures.reads c.decode_claimed.ensures.read
