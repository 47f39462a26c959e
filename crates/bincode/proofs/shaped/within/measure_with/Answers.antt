use Rattle.std.proofs.Common.{◌≡◌, rules}
use Rattle.std.proofs.lemmas.Result.{IfOk-weaker}
use Rattle.bincode.proofs.shaped.within.measure_with.Goals as goal

pub returns-clause-ok : goal.returns-clause-ok
returns-clause-ok g c = λ known.
    let same : c.reader-1.given.0 ≡ c.measure_shape.new.decoder.reader.now = search rules in
    let h = rw (c.new-decoder.ensures.reader, c.new-decoder.ensures.charge, ← same) at c.measure_shape.ensures.ok in
    IfOk-weaker c.measure_shape.result _ _ (λ v d. (_, d)) (h known)
