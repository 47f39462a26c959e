use Rattle.std.proofs.lemmas.Result.{err_from_is_err_and}
use Rattle.bincode_collections.proofs.Containers.{length-stops, length-reads}
use Rattle.bincode_collections.proofs.fill_list.decode_collection.Goals as goal

pub returns-in_err-len : goal.returns-in_err-len
returns-in_err-len g c =
    let p = err_from_is_err_and c.from_residual.result c.from_residual.ensures.1 in
    rw (p.1, p.2) (length-stops g.D.C.Config.setting _ _ c.in_err-len.ensures.reads)

pub returns : goal.returns
returns g c = length-reads g.D.C.Config.setting _ _ c.in_ok-len.ensures.reads c.decode_claimed_items.ensures
