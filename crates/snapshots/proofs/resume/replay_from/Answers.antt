use Rattle.std.specs.Prelude.{◌++◌, length}
use Rattle.std.proofs.Common.{sym, subst}
use Rattle.std.proofs.lemmas.Result.{IfOk-weaker, MatchResult-weaker}
use Rattle.bincode_io.specs.Stream.{known_bytes}
use Rattle.snapshots.specs.Resuming.{HoldBelow, HoldFrom}
use Rattle.snapshots.proofs.NumberLaws.{advances-run, replay-continues}
use Rattle.snapshots.specs.RowLaws.{equal-parts}
use Rattle.snapshots.proofs.ResumeLaws.{resumed}
use Rattle.snapshots.proofs.resume.replay_from.Goals as goal

pub returns-clause-advances : goal.returns-clause-advances
returns-clause-advances g c =
    MatchResult-weaker c.replay.result c.replay.ensures.runs
    (λ r h. advances-run g.M.Machine.applies h.0 _ _ h.2) (λ e h. advances-run g.M.Machine.applies h.0 _ _ h.2)

pub returns-clause-continues : goal.returns-clause-continues
returns-clause-continues g c = λ tells.
    IfOk-weaker c.replay.result _ _
    (λ replayed h. replay-continues g.M.Machine.applies _ _ _ _ _ _ _ replayed h)
    (c.replay.ensures.replayed tells)

pub returns-clause-resumes : goal.returns-clause-resumes
returns-clause-resumes g c = λ tells bytes first earlier led is_number passed others lost below row are bytes_are.
    let old = c.args.numbered.now in
    let new = c.replay.new.machine in
    IfOk-weaker c.replay.result _ _
    (λ replayed h. resumed g.M.Command.PartialEq.eq _ (equal-parts g.M.Command.PartialEq.eq) g.M.Machine.applies first earlier (old.next, g.M.Machine.state old.machine) (new.next, g.M.Machine.state new.machine)
    led is_number passed others (length (known_bytes (g.R.Read.remaining c.args.log.now))) replayed
    (subst (λ z. HoldBelow z passed) (sym is_number) below) (subst (λ z. HoldFrom z others) (sym is_number) row) h)
    (c.replay.ensures.recovers tells bytes (passed ++ others) lost are bytes_are)
