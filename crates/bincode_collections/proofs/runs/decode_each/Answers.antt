use Rattle.std.proofs.Common.{arith, sym}
use Rattle.std.proofs.lemmas.List.{take_more_set, take_all}
use Rattle.std.proofs.lemmas.Result.{err_from_is_err_and}
use Rattle.bincode_collections.proofs.Reading.{none-so_far, next-releases, next-so_far, stops-so_far, all-so_far}
use Rattle.bincode_collections.proofs.runs.decode_each.Goals as goal

pub loop-index-init : goal.loop-index-init
loop-index-init g c = none-so_far c.requires

pub decode_next-requires : goal.decode_next-requires
decode_next-requires g c = next-releases c.loop-index.invariant (omega arith)

pub returns-in_err-values : goal.returns-in_err-values
returns-in_err-values g c =
    let p = err_from_is_err_and c.from_residual.result c.from_residual.ensures.1 in
    rw (p.1, p.2) (stops-so_far c.loop-index.invariant (omega arith) (λ k. (k, omega arith)) c.in_err-values.ensures)

pub loop-index-preserved : goal.loop-index-preserved
loop-index-preserved g c =
    next-so_far c.loop-index.invariant (omega arith) (g.V.Value.Wire.words.lawful _) (g.V.Value.Wire.words.balanced _) (take_more_set _ _ _ (omega arith)) c.in_ok-values.ensures

pub returns : goal.returns
returns g c = all-so_far c.loop-index.invariant (omega arith) (sym (take_all c.loop-index.index c.loop-index.values (omega arith)))
