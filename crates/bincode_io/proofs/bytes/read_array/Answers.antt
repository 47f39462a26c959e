use Rattle.std.proofs.Common.{◌∙◌}
use Rattle.std.proofs.lemmas.List.{length-replicate}
use Rattle.std.proofs.lemmas.Result.{err_from_is_err_and}
use Rattle.bincode_io.proofs.Words.{fixed_bytes-read, fixed_bytes-misreads}
use Rattle.bincode_io.proofs.bytes.read_array.Goals as goal

pub returns-in_err-read : goal.returns-in_err-read
returns-in_err-read g c =
    let p = err_from_is_err_and c.from_residual.result c.from_residual.ensures.1 in
    let read = c.in_err-read.ensures in
    rw (p.1, p.2) (record {
      ok = λ known. tt;
      err = λ known. fixed_bytes-misreads _ _ _ _ _ _ _ _ (rw length-replicate at (read.why known)) (read.left known);
      failures_monotone = read.failures_monotone;
      tells = read.tells;
      same_loans = read.same_loans;
    })

pub returns : goal.returns
returns g c =
    let read = c.in_ok-read.ensures in
    record {
      ok = λ known. rw (read.next known) (fixed_bytes-read _ _ _ (c.read.auto.bytes ∙ length-replicate g.row.N 0));
      err = λ known. tt;
      failures_monotone = read.failures_monotone;
      tells = read.tells;
      same_loans = read.same_loans;
    }
