use Rattle.std.proofs.lemmas.Result.{IfOk-weaker}
use Rattle.guide.proofs.trips.write_and_read.Goals as goal

pub returns : goal.returns
returns c =
    IfOk-weaker c.round_trip_by_vec.result _ _ (λ trip back. back (λ m s w. tt)) c.round_trip_by_vec.ensures.back
