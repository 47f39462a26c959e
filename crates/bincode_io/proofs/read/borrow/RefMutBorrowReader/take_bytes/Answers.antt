use Rattle.std.proofs.Common.{refl}
use Rattle.bincode_io.proofs.read.borrow.RefMutBorrowReader.take_bytes.Goals as goal

pub returns : goal.returns
returns g c =
    let took = c.take_bytes.ensures in
    record { next = took.next; whole = took.whole; why = took.why; left = took.left; failures_monotone = took.failures_monotone; tells = took.tells; same_loans = rw took.same_loans refl }
