use Rattle.std.proofs.lemmas.Result.{err_from_is_err_and}
use Rattle.bincode_encode.specs.TupleEncoding.{tuple-encodes, tuple-halts}
use Rattle.bincode_encode.proofs.rows.Cons4RefEncodeRow.encode_row.Goals as goal

pub returns-in_err-write_value : goal.returns-in_err-write_value
returns-in_err-write_value g c =
    let p = err_from_is_err_and c.from_residual.result c.from_residual.ensures.1 in
    rw (p.1, p.2) (tuple-halts _ c.in_err-write_value.ensures)

pub returns-in_err-write_value-2 : goal.returns-in_err-write_value-2
returns-in_err-write_value-2 g c =
    let p = err_from_is_err_and c.from_residual-in_err-write_value-2.result c.from_residual-in_err-write_value-2.ensures.1 in
    let join = g.met.E.W.Writer.adds_join in
    rw (p.1, p.2)
    (tuple-encodes _ join c.in_ok-write_value.ensures
    (tuple-halts _ c.in_err-write_value-2.ensures))

pub returns-in_err-write_value-3 : goal.returns-in_err-write_value-3
returns-in_err-write_value-3 g c =
    let p = err_from_is_err_and c.from_residual-in_err-write_value-3.result c.from_residual-in_err-write_value-3.ensures.1 in
    let join = g.met.E.W.Writer.adds_join in
    rw (p.1, p.2)
    (tuple-encodes _ join c.in_ok-write_value.ensures
    (tuple-encodes _ join c.in_ok-write_value-2.ensures
    (tuple-halts _ c.in_err-write_value-3.ensures)))

pub returns-in_err-write_value-4 : goal.returns-in_err-write_value-4
returns-in_err-write_value-4 g c =
    let p = err_from_is_err_and c.from_residual-in_err-write_value-4.result c.from_residual-in_err-write_value-4.ensures.1 in
    let join = g.met.E.W.Writer.adds_join in
    rw (p.1, p.2)
    (tuple-encodes _ join c.in_ok-write_value.ensures
    (tuple-encodes _ join c.in_ok-write_value-2.ensures
    (tuple-encodes _ join c.in_ok-write_value-3.ensures
    (tuple-halts _ c.in_err-write_value-4.ensures))))

pub returns : goal.returns
returns g c =
    let join = g.met.E.W.Writer.adds_join in
    tuple-encodes _ join c.in_ok-write_value.ensures
    (tuple-encodes _ join c.in_ok-write_value-2.ensures
    (tuple-encodes _ join c.in_ok-write_value-3.ensures
    (tuple-encodes _ join c.in_ok-write_value-4.ensures c.encode_row.ensures)))
