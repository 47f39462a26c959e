use Rattle.std.proofs.lemmas.Result.{on_ok_weaker, IfErr-weaker}
use Rattle.calls.proofs.Stopped.{unfit-answered, unfit-fails}
use Rattle.calls.proofs.serving.answer_request.Goals as goal

pub returns-in-Ok-Unfit-clause-answered : goal.returns-in-Ok-Unfit-clause-answered
returns-in-Ok-Unfit-clause-answered g c =
    let unsent = rw c.in-Ok-Unfit.field-0-is at c.in-Ok-Unfit.ensures.sent in
    on_ok_weaker c.refuse.result
    (λ sends. unfit-answered g.S.Service.replies g.S.Service.refusal_reply g.S.Reply.Wire.words g.C.Config.setting g.C.Config.bound c.args.most g.S.Service.fails
    (g.S.Service.state c.args.service.now) c.args.request c.in-Ok.reply (g.S.Service.state c.answer.new.self) _ _ _ c.in-Ok.ensures.replied unsent.0 unsent.1 sends) c.refuse.ensures.sent

pub returns-in-Ok-Unfit-clause-failed : goal.returns-in-Ok-Unfit-clause-failed
returns-in-Ok-Unfit-clause-failed g c =
    let unsent = rw c.in-Ok-Unfit.field-0-is at c.in-Ok-Unfit.ensures.sent in
    IfErr-weaker c.refuse.result _ _
    (λ why part. unfit-fails g.S.Service.replies g.S.Service.refusal_reply g.S.Reply.Wire.words g.C.Config.setting g.C.Config.bound c.args.most g.S.Service.fails
    (g.S.Service.state c.args.service.now) c.args.request c.in-Ok.reply (g.S.Service.state c.answer.new.self) _ _ _ c.in-Ok.ensures.replied unsent.0 unsent.1 why part) c.refuse.ensures.failed
