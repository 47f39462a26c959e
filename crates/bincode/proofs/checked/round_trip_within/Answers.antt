use Rattle.std.proofs.lemmas.Result.{IfOk-weaker}
use Rattle.bincode_lemmas.specs.CostLaws.{cost-fits}
use Rattle.bincode.proofs.checked.round_trip_within.Goals as goal

pub returns : goal.returns
returns g c = record {
  back = λ allows. IfOk-weaker c.round_trip.result _ _ (λ trip back. back (cost-fits _ _ _ (c.tell_costs.ensures.costs _) _ allows _)) c.round_trip.ensures.back;
  fits = c.round_trip.ensures.back;
  short = c.round_trip.ensures.short;
}
