use Rattle.std.specs.Prelude.{length}
use Rattle.std.proofs.Common.{sym, subst}
use Rattle.replay.specs.Replays.{Run}
use Rattle.snapshots.proofs.resuming.resume_machine.Goals as goal

pub returns-in-Err-replay_from-clause-fault : goal.returns-in-Err-replay_from-clause-fault
returns-in-Err-replay_from-clause-fault g c = λ tells.
    let new = c.replay_from.new.numbered in
    (c.in-Ok.numbered.next, c.in-Ok.numbered.machine, (new.next, g.M.Machine.state new.machine), c.in-Ok.ensures.restored, c.in-Err-replay_from.ensures.stopped tells)

pub returns-in-Ok-replay_from-clause-resumes : goal.returns-in-Ok-replay_from-clause-resumes
returns-in-Ok-replay_from-clause-resumes g c = λ tells bytes first earlier saved led small saved_as passed others lost below row are bytes_are.
    let back = c.in-Ok.ensures.back (length earlier) saved small saved_as in
    c.in-Ok-replay_from.ensures.resumes tells bytes first earlier (subst (Run g.M.Machine.applies first earlier) (sym back.1) led) back.0 passed others lost below row are bytes_are
