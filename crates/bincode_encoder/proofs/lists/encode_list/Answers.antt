use Rattle.std.proofs.lemmas.Result.{err_from_is_err_and}
use Rattle.bincode_encoder.proofs.ListAnswers.{length-halts, list-encodes}
use Rattle.bincode_encoder.proofs.lists.encode_list.Goals as goal

pub returns-in_err-encode_length : goal.returns-in_err-encode_length
returns-in_err-encode_length g c =
    let p = err_from_is_err_and c.from_residual.result c.from_residual.ensures.1 in
    rw (p.1, p.2) (length-halts _ _ _ _ c.args.items.now c.in_err-encode_length.ensures)

pub returns : goal.returns
returns g c =
    rw c.rebuild_result.ensures (list-encodes _ _ _ _ c.args.items.now g.met.E.W.Writer.adds_join c.in_ok-encode_length.ensures c.encode_run.ensures)
