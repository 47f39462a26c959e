use Rattle.std.proofs.Common.{◌<◌, ◌^◌, [], ◌∙◌, arith, sym, append-nil}
use Rattle.calls.proofs.Conversed.{both, conversed}
use Rattle.calls.proofs.memory.call_in_memory.Goals as goal

pub returns : goal.returns
returns g c =
    let most = c.args.most in
    let small : most < 2 ^ 32 = let fits = c.ranges.most.fits in omega (arith, fits) in
    let sent = c.in_ok-sent.ensures in
    let served = rw c.deref-2.ensures.value at c.in_ok-answered.ensures in
    let answered = rw c.deref-4.ensures.value at c.replies_of.ensures.replies in
    both c.replies_of.result _ _ _
    (λ replies count read.
    conversed g.S.Service.replies g.S.Service.refusal_reply g.S.Request.Wire.words g.S.Reply.Wire.words g.C.Config.setting g.C.Config.bound most small _ c.tell_exact.ensures _ c.tell_exact-2.ensures
    c.args.requests.now sent.0 c.in_ok-sent.sent.items (g.S.Service.state c.args.service.now) served.1.replies (g.S.Service.state c.serve_slice.new.service) served.1.rest served.0.is_torn replies.items
    sent.2 sent.1 (rw c.deref.ensures.value at c.tell_bytes.ensures) sent.3 served.1.serves served.1.ends c.in_ok-answered.answered.items [] read.0
    (record { are_replies = served.1.are_replies; are_bytes = rw c.deref-3.ensures.value at c.tell_bytes-2.ensures; answered_is = served.1.sent ∙ sym (append-nil _); read = read.1 }) count)
    c.replies_of.ensures.count answered
