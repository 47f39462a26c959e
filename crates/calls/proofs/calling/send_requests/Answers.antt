use Rattle.std.proofs.Common.{arith, ◌≡◌, ◌<◌, ◌+◌, ◌++◌, ◌∷◌, [], length, suc, drop, take, ◌∙◌, ap, sym, subst}
use Rattle.std.proofs.Math.Seq.{split_at}
use Rattle.std.proofs.lemmas.List.{take_more, length-take-le}
use Rattle.calls.specs.Calling.{SendsAll}
use Rattle.calls.proofs.Sent.{sent-more}
use Rattle.calls.proofs.calling.send_requests.Goals as goal

pub loop-number-preserved : goal.loop-number-preserved
loop-number-preserved g c =
    let requests = c.args.requests.now in
    let i = c.loop-number.number in
    let value = c.index-requests-number.result in
    let next : take (i + 1) requests ≡ take i requests ++ value ∷ [] = take_more requests i value c.loop-number-test.true ∙ ap (λ x. take i requests ++ x ∷ []) (sym c.index-requests-number.is) in
    let added = c.in_default.ensures.added in
    subst (λ z. SendsAll g.Q.Wire.words g.C.Config.setting g.C.Config.bound c.args.most z (g.W.Write.contents c.args.output.now) (g.W.Write.contents c.append.new.store)) (sym next)
    (sent-more g.Q.Wire.words g.C.Config.setting g.C.Config.bound c.args.most (take i requests) value (g.W.Write.contents c.args.output.now) (g.W.Write.contents c.loop-number.output) (g.W.Write.contents c.append.new.store)
    c.loop-number.invariant (added.word, added.is_fitting, added.appended))

pub returns-in-Err-clause-unsent : goal.returns-in-Err-clause-unsent
returns-in-Err-clause-unsent g c =
    let requests = c.args.requests.now in
    let i = c.loop-number.number in
    let value = c.index-requests-number.result in
    let less : i < length requests = c.loop-number-test.true in
    let whole : requests ≡ take i requests ++ value ∷ drop (suc i) requests = split_at requests i value c.loop-number-test.true ∙ ap (λ x. take i requests ++ x ∷ drop (suc i) requests) (sym c.index-requests-number.is) in
    (take i requests, value, drop (suc i) requests, c.loop-number.output, whole, length-take-le i requests (omega (arith, less)), c.loop-number.invariant, c.in-Err.ensures.left)
