use Rattle.std.proofs.lemmas.Result.{err_from_is_err_and}
use Rattle.std.proofs.Common.{subst, inl, inr}
use Rattle.snapshots.specs.Snapshots.{IsStateFault}
use Rattle.snapshots.proofs.SnapshotLaws.{loaded-back, not-loaded-back}
use Rattle.snapshots.proofs.snapshot.load.Goals as goal

pub returns-in_err-commands-clause-back : goal.returns-in_err-commands-clause-back
returns-in_err-commands-clause-back g c = λ commands state small saved.
    let p = err_from_is_err_and c.from_residual.result c.from_residual.ensures.1 in
    rw (p.1, p.2) (not-loaded-back g.T.Wire.words _ _ commands state c.args.bytes.now saved _ (inl c.in_err-commands.ensures.fault))

pub returns-in_err-state-clause-back : goal.returns-in_err-state-clause-back
returns-in_err-state-clause-back g c = λ commands state small saved.
    let opened = c.in_ok-commands.ensures.opened in
    let fault = subst (λ z. IsStateFault (g.T.Wire.words.format g.C.Config.setting) g.C.Config.bound z c.in_err-state.field-0.0) opened.3 c.in_err-state.ensures.fault in
    let p = err_from_is_err_and c.from_residual-in_err-state.result c.from_residual-in_err-state.ensures.1 in
    rw (p.1, p.2) (not-loaded-back g.T.Wire.words _ _ commands state c.args.bytes.now saved _ (inr (opened.0, fault)))

pub returns-clause-back : goal.returns-clause-back
returns-clause-back g c = λ commands state small saved.
    let opened = c.in_ok-commands.ensures.opened in
    loaded-back g.T.Wire.words _ _ g.T.PartialEq.eq c.tell_exact.ensures commands state c.args.bytes.now small saved c.in_ok-commands.commands c.in_ok-state.state opened.1
    (record { word = c.in_ok-commands.word.now; bytes_are = opened.2; is_word = c.in_ok-state.ensures.state })
