use Rattle.std.proofs.lemmas.Result.{err_from_is_err_and}
use Rattle.bincode_encoder.proofs.ListAnswers.{bag-encodes, length-halts, list-encodes}
use Rattle.bincode_encoder.proofs.lists.encode_heap.Goals as goal

pub returns-in_err-encode_length : goal.returns-in_err-encode_length
returns-in_err-encode_length g c =
    let p = err_from_is_err_and c.from_residual.result c.from_residual.ensures.1 in
    rw (p.1, p.2, ← c.as_slice-items.ensures.value) (bag-encodes _ _ _ _ _ (length-halts _ _ _ _ c.as_slice-items.result.now c.in_err-encode_length.ensures))

pub returns : goal.returns
returns g c =
    rw (c.rebuild_result.ensures, ← c.as_slice-items.ensures.value) (bag-encodes _ _ _ _ _
    (list-encodes _ _ _ _ c.as_slice-items.result.now g.met.E.W.Writer.adds_join c.in_ok-encode_length.ensures c.encode_each.ensures))
