use Rattle.std.proofs.Common.{ap, refl}
use Rattle.std.proofs.lemmas.Result.{IfErr-weaker}
use Rattle.framed_store.specs.declared.records.Content.TheVariants.{Damaged, Longer, Undecodable}
use Rattle.calls.proofs.Stopped.{unsent-fails}
use Rattle.calls.specs.declared.refusal.Refusal.TheVariants as refusals
use Rattle.calls.proofs.serving.answer_frame.Goals as goal

pub returns-in-Value-clause-answered : goal.returns-in-Value-clause-answered
returns-in-Value-clause-answered g c = rw c.in-Value.is c.answer_request.ensures.answered

pub returns-in-Damaged-clause-failed : goal.returns-in-Damaged-clause-failed
returns-in-Damaged-clause-failed g c =
    rw c.in-Damaged.is (IfErr-weaker c.refuse.result _ _
    (λ why part. unsent-fails g.S.Service.replies g.S.Service.refusal_reply g.S.Reply.Wire.words g.C.Config.setting g.C.Config.bound c.args.most g.S.Service.fails (g.S.Service.state c.args.service.now) Damaged
    (g.S.Service.refusal_reply refusals.Damaged) (g.S.Service.state c.args.service.now) _ _ (refl, refl) why part) c.refuse.ensures.failed)

pub returns-in-Undecodable-clause-failed : goal.returns-in-Undecodable-clause-failed
returns-in-Undecodable-clause-failed g c =
    rw c.in-Undecodable.is (IfErr-weaker c.refuse-in-Undecodable.result _ _
    (λ why part. unsent-fails g.S.Service.replies g.S.Service.refusal_reply g.S.Reply.Wire.words g.C.Config.setting g.C.Config.bound c.args.most g.S.Service.fails (g.S.Service.state c.args.service.now)
    (Undecodable c.in-Undecodable.why) (g.S.Service.refusal_reply (refusals.Undecodable c.of_error.result)) (g.S.Service.state c.args.service.now) _ _
    (ap (λ fault. g.S.Service.refusal_reply (refusals.Undecodable fault)) c.of_error.ensures, refl) why part) c.refuse-in-Undecodable.ensures.failed)

pub returns-in-Longer-clause-failed : goal.returns-in-Longer-clause-failed
returns-in-Longer-clause-failed g c =
    rw c.in-Longer.is (IfErr-weaker c.refuse-in-Longer.result _ _
    (λ why part. unsent-fails g.S.Service.replies g.S.Service.refusal_reply g.S.Reply.Wire.words g.C.Config.setting g.C.Config.bound c.args.most g.S.Service.fails (g.S.Service.state c.args.service.now)
    (Longer c.in-Longer.taken) (g.S.Service.refusal_reply (refusals.TrailingBytes c.in-Longer.taken)) (g.S.Service.state c.args.service.now) _ _ (refl, refl) why part) c.refuse-in-Longer.ensures.failed)
