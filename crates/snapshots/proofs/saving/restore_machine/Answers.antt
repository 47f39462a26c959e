use Rattle.std.specs.Prelude.{Err}
use Rattle.std.proofs.Common.{ap}
use Rattle.snapshots.proofs.saving.restore_machine.Goals as goal

pub returns-in-Ok-from_saved-clause-back : goal.returns-in-Ok-from_saved-clause-back
returns-in-Ok-from_saved-clause-back g c = λ commands machine small saved_as.
    let back = c.in-Ok.ensures.back commands saved_as.saved small saved_as.is_snapshot in
    let stands = g.met.M.Saving.equals_stand saved_as.saved c.in-Ok.loaded.1 machine back.1 saved_as.stands in
    (back.0, g.met.M.Saving.one_state c.in-Ok.loaded.1 machine c.in-Ok-from_saved.machine stands c.in-Ok-from_saved.ensures.state)

pub returns-in-Err-NoState-clause-back : goal.returns-in-Err-NoState-clause-back
returns-in-Err-NoState-clause-back g c = λ commands machine small saved_as.
    let back = c.in-Ok.ensures.back commands saved_as.saved small saved_as.is_snapshot in
    c.in-Err-NoState.ensures.none (ap Err c.in-Err-NoState.field-0-is) machine (g.met.M.Saving.equals_stand saved_as.saved c.in-Ok.loaded.1 machine back.1 saved_as.stands)
