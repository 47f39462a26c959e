use Rattle.proved_callers.proofs.Agree.{each-read}
use Rattle.proved_callers.proofs.borrowed.read_twice.Goals as goal

pub returns-clause-owned : goal.returns-clause-owned
returns-clause-owned g c =
    let a = c.decode_from_slice-owned.ensures in
    let b = c.borrow_decode_from_slice-borrowed.ensures in
    each-read _ (g.T.Wire.words.lawful _) _ _ _ _ _ _ a.word b.word b.found

pub returns-clause-borrowed : goal.returns-clause-borrowed
returns-clause-borrowed g c =
    let a = c.decode_from_slice-owned.ensures in
    let b = c.borrow_decode_from_slice-borrowed.ensures in
    each-read _ (g.T.Wire.words.lawful _) _ _ _ _ _ _ b.word a.word a.found
