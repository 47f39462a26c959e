use Rattle.calls.proofs.serving.refuse.Goals as goal

pub returns-in-Ok-Unfit-clause-failed : goal.returns-in-Ok-Unfit-clause-failed
returns-in-Ok-Unfit-clause-failed g c = let unsent = rw c.in-Ok-Unfit.field-0-is at c.in-Ok-Unfit.ensures.sent in rw c.refuse-reply.ensures at unsent
