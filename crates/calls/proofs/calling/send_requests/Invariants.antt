use Rattle.std.proofs.Common.{take}
use Rattle.calls.specs.Calling.{SendsAll}
use Rattle.calls.proofs.calling.send_requests.Given as goal

abbrev pub invariant-loop-number : goal.invariant-loop-number
invariant-loop-number g l = SendsAll g.Q.Wire.words g.C.Config.setting g.C.Config.bound l.most (take l.number l.requests) (g.W.Write.contents l.initial.output) (g.W.Write.contents l.output)
