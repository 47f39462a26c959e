use Rattle.calls.proofs.calling.Caller.receive.Goals as goal

pub returns-in-Ok-Some-clause-equal : goal.returns-in-Ok-Some-clause-equal
returns-in-Ok-Some-clause-equal g c = λ tells all sent word rest fit i. rw c.in-Ok-Some.field-0-is at (c.in-Ok-Some.ensures.equal tells all sent word rest fit i)
