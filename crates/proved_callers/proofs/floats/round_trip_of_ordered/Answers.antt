use Rattle.proved_callers.proofs.floats.round_trip_of_ordered.Goals as goal

pub returns : goal.returns
returns g c = λ allows. c.round_trip_within.ensures.back allows
