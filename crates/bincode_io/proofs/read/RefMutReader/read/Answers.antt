use Rattle.std.proofs.Common.{refl}
use Rattle.bincode_io.proofs.read.RefMutReader.read.Goals as goal

pub returns : goal.returns
returns g c =
    let read = c.read.ensures in
    record { next = read.next; why = read.why; left = read.left; failures_monotone = read.failures_monotone; tells = read.tells; same_loans = rw read.same_loans refl }
