use Rattle.std.proofs.Common.{◌∙◌}
use Rattle.bincode_collections.proofs.runs.decode_next.Goals as goal

pub returns : goal.returns
returns g c =
    let before = c.unclaim_bytes_read.ensures in
    let read = c.read_value.ensures in
    record {
      ok = λ known. rw (before.kept.same_remaining, before.released, c.claim_size.ensures) at (read.ok (before.kept.tells known));
      err = λ known. rw (before.kept.same_remaining, before.released, before.kept.same_failures, c.claim_size.ensures) at (read.err (before.kept.tells known));
      failures_monotone = rw before.kept.same_failures at read.failures_monotone;
      tells = λ known. read.tells (before.kept.tells known);
      charge_kept = rw (before.released, c.claim_size.ensures) at read.charge_kept;
      within = rw (before.released, c.claim_size.ensures) at read.within;
      same_loans = read.same_loans ∙ before.kept.same_loans;
    }
