use Rattle.proved_callers.proofs.calls.round_trip_of_numbers.Goals as goal

pub returns : goal.returns
returns g c = record {
  back = λ allows. c.round_trip_within.ensures.back allows;
  short = c.round_trip_within.ensures.short;
}
