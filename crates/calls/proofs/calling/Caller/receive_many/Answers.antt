use Rattle.std.proofs.Common.{◌≡◌, ◌++◌, ◌∷◌, [], ◌∙◌, ap, length, sym, subst, arith, length-append}
use Rattle.std.proofs.lemmas.Result.{err_from_is_err_and}
use Rattle.bincode_io.specs.Stream.{known_bytes}
use Rattle.calls.specs.Calling.{AreReplies, IsNoReply, IsReply, input_of, most_of}
use Rattle.calls.proofs.Received.{replies-more}
use Rattle.calls.proofs.calling.Caller.receive_many.Goals as goal

pub loop-preserved : goal.loop-preserved
loop-preserved g c =
    let before = c.loop.invariant in
    let grown : c.push.new.self.items ≡ c.loop.replies.items ++ c.in_ok-reply.reply ∷ [] = c.in_default.ensures.items in
    let one = length-append c.loop.replies.items (c.in_ok-reply.reply ∷ []) in
    let counted = before.count in
    let longer = ap length grown in record {
      count = omega (arith, one, counted, longer);
      output = c.receive.ensures.output ∙ before.output;
      most = c.receive.ensures.most ∙ before.most;
      is_known = λ tells. c.receive.ensures.is_known (before.is_known tells);
      replies = λ tells.
          let reply = subst (λ m. IsReply g.A.Wire.words g.C.Config.setting g.C.Config.bound m (known_bytes (g.R.Read.remaining (input_of c.loop.self))) (known_bytes (g.R.Read.remaining (input_of c.receive.new.self))) c.in_ok-reply.reply)
          before.most (c.in_ok-reply.ensures.reply (before.is_known tells)) in
          subst (AreReplies g.A.Wire.words g.C.Config.setting g.C.Config.bound (most_of c.args.self.now) (known_bytes (g.R.Read.remaining (input_of c.args.self.now))) (known_bytes (g.R.Read.remaining (input_of c.receive.new.self)))) (sym grown)
          (replies-more g.A.Wire.words g.C.Config.setting g.C.Config.bound (most_of c.args.self.now) (known_bytes (g.R.Read.remaining (input_of c.args.self.now))) (known_bytes (g.R.Read.remaining (input_of c.loop.self)))
          (known_bytes (g.R.Read.remaining (input_of c.receive.new.self))) c.loop.replies.items c.in_ok-reply.reply (before.replies tells) reply);
    }

pub returns-in_err-reply-clause-none : goal.returns-in_err-reply-clause-none
returns-in_err-reply-clause-none g c = λ tells.
    let before = c.loop.invariant in
    let p = err_from_is_err_and c.from_residual.result c.from_residual.ensures.1 in
    let counted = before.count in
    let more = c.loop-test.true in
    let none = subst (λ m. IsNoReply g.A.Wire.words g.C.Config.setting g.C.Config.bound m (known_bytes (g.R.Read.remaining (input_of c.loop.self))) c.in_err-reply.field-0.0) before.most (c.in_err-reply.ensures.none (before.is_known tells)) in
    rw (p.1, p.2) (c.loop.replies.items, known_bytes (g.R.Read.remaining (input_of c.loop.self)), omega (arith, counted, more), before.replies tells, none)
