use Rattle.std.proofs.Common.{refl}
use Rattle.std.proofs.lemmas.Result.{on_ok_weaker}
use Rattle.bincode_io.proofs.write.RefMutWriter.write.Goals as goal

pub returns-clause-piece : goal.returns-clause-piece
returns-clause-piece g c =
    let write = c.write.ensures.piece in
    record { ok = on_ok_weaker c.write.result (λ h. (h, refl)) write.ok; err = write.err; failures_monotone = write.failures_monotone; same_loans = rw write.same_loans refl }
