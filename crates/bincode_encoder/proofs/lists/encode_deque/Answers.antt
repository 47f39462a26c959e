use Rattle.std.proofs.Common.{◌++◌, sym, ◌∙◌, length-append}
use Rattle.std.proofs.lemmas.Result.{err_from_is_err_and}
use Rattle.bincode_encoder.proofs.ListAnswers.{length-halts, list-encodes, first_run-halts, runs-encode}
use Rattle.bincode_encoder.proofs.lists.encode_deque.Goals as goal

pub returns-in_err-encode_length : goal.returns-in_err-encode_length
returns-in_err-encode_length g c =
    let p = err_from_is_err_and c.from_residual.result c.from_residual.ensures.1 in
    let vs = c.as_slices.result.0.now in
    let ws = c.as_slices.result.1.now in
    let len = c.len-len.ensures ∙ sym c.as_slices.ensures.len ∙ sym (length-append vs ws) in
    rw (p.1, p.2, ← c.as_slices.ensures.items) (length-halts _ _ _ _ (vs ++ ws) (rw len at c.in_err-encode_length.ensures))

pub returns-in_err-encode_run : goal.returns-in_err-encode_run
returns-in_err-encode_run g c =
    let p = err_from_is_err_and c.from_residual-in_err-encode_run.result c.from_residual-in_err-encode_run.ensures.1 in
    let vs = c.as_slices.result.0.now in
    let ws = c.as_slices.result.1.now in
    let len = c.len-len.ensures ∙ sym c.as_slices.ensures.len ∙ sym (length-append vs ws) in
    rw (p.1, p.2, ← c.as_slices.ensures.items)
    (list-encodes _ _ _ _ (vs ++ ws) g.met.E.W.Writer.adds_join (rw len at c.in_ok-encode_length.ensures)
    (first_run-halts _ _ _ (g.V.Value.Wire.words.writable g.E.C.Config.setting) vs ws c.in_err-encode_run.ensures))

pub returns : goal.returns
returns g c =
    let vs = c.as_slices.result.0.now in
    let ws = c.as_slices.result.1.now in
    let len = c.len-len.ensures ∙ sym c.as_slices.ensures.len ∙ sym (length-append vs ws) in
    let join = g.met.E.W.Writer.adds_join in
    rw (c.rebuild_result.ensures, ← c.as_slices.ensures.items)
    (list-encodes _ _ _ _ (vs ++ ws) join (rw len at c.in_ok-encode_length.ensures)
    (runs-encode _ _ _ (g.V.Value.Wire.words.writable g.E.C.Config.setting) vs ws join c.in_ok-encode_run.ensures c.encode_run-2.ensures))
