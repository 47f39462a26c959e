use Rattle.std.proofs.lemmas.Result.{err_from_is_err_and}
use Rattle.bincode_encode.specs.TupleEncoding.{tuple-encodes, tuple-halts}
use Rattle.bincode_encode.proofs.rows.ConsRefEncodeRow.encode_row.Goals as goal

pub returns-in_err-write_value : goal.returns-in_err-write_value
returns-in_err-write_value g c =
    let p = err_from_is_err_and c.from_residual.result c.from_residual.ensures.1 in
    rw (p.1, p.2) (tuple-halts _ c.in_err-write_value.ensures)

pub returns : goal.returns
returns g c = tuple-encodes _ g.met.E.W.Writer.adds_join c.in_ok-write_value.ensures c.encode_row.ensures
