use Rattle.std.specs.Prelude.{◌≡◌}
use Rattle.std.specs.Float.{binary64}
use Rattle.bincode_lemmas.specs.CostLaws.{cost-fits}
use Rattle.bincode_lemmas.specs.FloatLaws.{float-lawful, float-costs, real-one}
use Rattle.bincode_lemmas.specs.LimitLaws.{read-back_slice}
use Rattle.proved_callers.proofs.floats.round_trip_of_f64.Goals as goal

pub returns : goal.returns
returns g c = λ allows.
    read-back_slice _ (float-lawful binary64 _) _ _ _ (λ w. c.args.value ≡ w) (λ w m h k. real-one c.args.value w m h k)
    _ _ _ c.in_ok-written.ensures.word (cost-fits _ _ _ (float-costs binary64 _) _ allows _) _ _ c.decode_from_slice-read.ensures.word c.decode_from_slice-read.ensures.found
