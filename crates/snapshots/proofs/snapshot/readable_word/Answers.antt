use Rattle.std.proofs.Common.{arith}
use Rattle.std.specs.Prelude.{length}
use Rattle.framed_store.proofs.Appends.{read-fitting}
use Rattle.snapshots.proofs.SnapshotLaws.{read-memory}
use Rattle.snapshots.proofs.snapshot.readable_word.Goals as goal

pub returns-in-Ok-read-clause-entry : goal.returns-in-Ok-read-clause-entry
returns-in-Ok-read-clause-entry g c =
    (read-fitting _ _ _ (length c.in-Ok.word.items) _ _ c.tell_valid.ensures c.in-Ok.ensures.word (omega arith) _ _ (rw c.deref.ensures.value at c.in-Ok-read.ensures.word)).is_entry

pub returns-in-Err-read-clause-fits : goal.returns-in-Err-read-clause-fits
returns-in-Err-read-clause-fits g c = λ fits.
    read-memory g.T.Wire.words _ _ c.args.state.now c.in-Ok.word.items c.in-Ok.ensures.word _ c.in-Err-read.e (rw c.deref.ensures.value at c.in-Err-read.ensures.found) fits
