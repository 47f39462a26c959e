use Rattle.std.proofs.Common.{◌∙◌, inr, subst, sym}
use Rattle.std.proofs.lemmas.Result.{IfErr-weaker}
use Rattle.bincode_io.specs.Stream.{TellsBytes, known_bytes}
use Rattle.calls.specs.Calling.{IsNoReply, MaybeNoReply, input_of, most_of}
use Rattle.calls.proofs.calling.Caller.call.Goals as goal

pub returns-clause-none : goal.returns-clause-none
returns-clause-none g c = λ tells.
    let input = c.flush.ensures.input ∙ c.send.ensures.input in
    let most = c.flush.ensures.most ∙ c.send.ensures.most in
    let IsNone = IsNoReply g.A.Wire.words g.C.Config.setting g.C.Config.bound (most_of c.flush.new.self) (known_bytes (g.R.Read.remaining (input_of c.flush.new.self))) in
    let IsMaybeNone = MaybeNoReply g.A.Wire.words g.C.Config.setting g.C.Config.bound (most_of c.args.self.now) (known_bytes (g.R.Read.remaining (input_of c.args.self.now))) in
    IfErr-weaker c.receive.result IsNone IsMaybeNone
    (λ e none.
    inr (inr (subst (λ m. IsNoReply g.A.Wire.words g.C.Config.setting g.C.Config.bound m (known_bytes (g.R.Read.remaining (input_of c.args.self.now))) e) most
    (subst (λ z. IsNoReply g.A.Wire.words g.C.Config.setting g.C.Config.bound (most_of c.flush.new.self) (known_bytes (g.R.Read.remaining z)) e) input none))))
    (c.receive.ensures.none (subst (λ z. TellsBytes (g.R.Read.remaining z)) (sym input) tells))
