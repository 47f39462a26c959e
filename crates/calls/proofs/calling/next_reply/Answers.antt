use Rattle.std.proofs.Common.{◌<◌, ◌^◌, arith}
use Rattle.bincode_io.specs.Stream.{known_bytes}
use Rattle.calls.proofs.Received.{told-reply, told-none, told-equal, no-torn}
use Rattle.calls.proofs.calling.next_reply.Goals as goal

pub returns-in-Ok-Record-clause-reply : goal.returns-in-Ok-Record-clause-reply
returns-in-Ok-Record-clause-reply g c = λ tells.
    let next = rw c.in-Ok-Record.field-0-is at (c.in-Ok-Record.ensures.next tells) in
    let left = rw c.in-Ok-Record.field-0-is at (c.in-Ok-Record.ensures.left tells) in
    rw c.reply_of.ensures (told-reply g.A.Wire.words g.C.Config.setting g.C.Config.bound c.args.most (known_bytes (g.R.Read.remaining c.args.input.now)) (known_bytes (g.R.Read.remaining c.next_from_stream.new.stream))
    c.in-Ok-Record.field-0-0 c.in-Ok-Record.content next left)

pub returns-in-Ok-Record-clause-none : goal.returns-in-Ok-Record-clause-none
returns-in-Ok-Record-clause-none g c = λ tells.
    let next = rw c.in-Ok-Record.field-0-is at (c.in-Ok-Record.ensures.next tells) in
    rw c.reply_of.ensures (told-none g.A.Wire.words g.C.Config.setting g.C.Config.bound c.args.most (known_bytes (g.R.Read.remaining c.args.input.now)) c.in-Ok-Record.field-0-0 c.in-Ok-Record.content next)

pub returns-in-Ok-Record-clause-equal : goal.returns-in-Ok-Record-clause-equal
returns-in-Ok-Record-clause-equal g c =
    let small : c.args.most < 2 ^ 32 = omega arith in λ tells all sent word rest fit i.
    let next = rw c.in-Ok-Record.field-0-is at (c.in-Ok-Record.ensures.next tells) in
    let left = rw c.in-Ok-Record.field-0-is at (c.in-Ok-Record.ensures.left tells) in
    rw c.reply_of.ensures (told-equal g.A.Wire.words g.C.Config.setting g.C.Config.bound c.args.most small _ c.tell_exact.ensures (known_bytes (g.R.Read.remaining c.args.input.now))
    (known_bytes (g.R.Read.remaining c.next_from_stream.new.stream)) c.in-Ok-Record.field-0-0 c.in-Ok-Record.content next left all sent word rest fit i)

pub returns-in-Ok-Torn-clause-equal : goal.returns-in-Ok-Torn-clause-equal
returns-in-Ok-Torn-clause-equal g c =
    let small : c.args.most < 2 ^ 32 = omega arith in λ tells all sent word rest fit i.
    let next = rw c.in-Ok-Torn.field-0-is at (c.in-Ok-Torn.ensures.next tells) in
    no-torn g.A.Wire.words g.C.Config.setting g.C.Config.bound c.args.most small _ c.tell_exact.ensures (known_bytes (g.R.Read.remaining c.args.input.now)) next all sent word rest fit i
