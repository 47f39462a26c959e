use Rattle.std.specs.Prelude.{refl, drop}
use Rattle.std.proofs.lemmas.List.Elements.{All-weaker}
use Rattle.std.proofs.lemmas.Result.{IfOk-weaker}
use Rattle.own_types.specs.Requests.{IsBounded, IsWithin}
use Rattle.own_types.proofs.RequestsRead.{half-again}
use Rattle.own_types.proofs.requests.serve.Goals as goal

pub returns-clause-bytes : goal.returns-clause-bytes
returns-clause-bytes g c =
    IfOk-weaker c.read_requests.result _ _ (λ r each. All-weaker (IsBounded _ 65536 c.args.received.now) (IsWithin 98304)
    (λ request w. half-again _ (drop request.start c.args.received.now) request.size w) r.read.items each) (c.read_requests.ensures.bounded 65536 refl)
