use Rattle.std.proofs.Common.{◌≡◌, length, ap, ◌∙◌, arith}
use Rattle.std.proofs.lemmas.Result.{err_from_is_err_and}
use Rattle.bincode_collections.proofs.Reading.{read-besides}
use Rattle.bincode_collections.proofs.runs.decode_vec.Goals as goal

pub returns-in_err-decode_run-clause-read : goal.returns-in_err-decode_run-clause-read
returns-in_err-decode_run-clause-read g c =
    let p = err_from_is_err_and c.from_residual-in_err-decode_run.result c.from_residual-in_err-decode_run.ensures.1 in
    let k : length c.deref_mut.result.now ≡ c.args.len = ap length c.deref_mut.ensures.value ∙ (rw c.in-Some.is at c.in_ok-values.ensures.length) in
    rw (p.1, p.2) (read-besides k (λ h. let l = h.1 in omega (arith, k, l)) c.in_err-decode_run.ensures)
