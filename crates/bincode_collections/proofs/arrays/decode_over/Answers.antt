use Rattle.std.proofs.Common.{◌≡◌, length, refl, rules}
use Rattle.std.proofs.lemmas.Result.{err_from_is_err_and}
use Rattle.bincode_collections.proofs.Reading.{read-besides, read-of}
use Rattle.bincode_collections.proofs.arrays.decode_over.Goals as goal

pub returns-in_err-decode_run : goal.returns-in_err-decode_run
returns-in_err-decode_run g c =
    let p = err_from_is_err_and c.from_residual.result c.from_residual.ensures.1 in
    let e : length c.args.values ≡ g.row.N = search rules in
    rw (p.1, p.2) (read-besides e (λ k. k.0) c.in_err-decode_run.ensures)

pub returns : goal.returns
returns g c =
    let e : length c.args.values ≡ g.row.N = search rules in
    read-of e refl c.in_ok-decode_run.ensures
