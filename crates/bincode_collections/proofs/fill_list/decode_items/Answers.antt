use Rattle.std.proofs.Common.{refl, arith}
use Rattle.std.proofs.lemmas.Result.{err_from_is_err_and}
use Rattle.bincode_collections.proofs.Putting.{begun-so_far, refused-so_far, finished-so_far}
use Rattle.bincode_collections.proofs.Reading.{next-releases, next-so_far, stops-so_far}
use Rattle.bincode_collections.proofs.fill_list.decode_items.Goals as goal

pub loop-init : goal.loop-init
loop-init g c =
    let d = g.met.D.Decoder in
    begun-so_far (d.context_is_known _ _) (d.context_remaining _ _) (d.context_charge _ _) (d.context_failures _ _) (d.context_loans _ _) c.requires c.in_ok-filling.ensures

pub decode_next-requires : goal.decode_next-requires
decode_next-requires g c = next-releases c.loop.invariant (omega arith)

pub returns-in_err-item : goal.returns-in_err-item
returns-in_err-item g c =
    let p = err_from_is_err_and c.from_residual-in_err-item.result c.from_residual-in_err-item.ensures.1 in
    rw (p.1, p.2) (stops-so_far c.loop.invariant (omega arith) (λ _. tt) c.in_err-item.ensures)

pub returns-in_err-put : goal.returns-in_err-put
returns-in_err-put g c =
    let p = err_from_is_err_and c.from_residual-in_err-put.result c.from_residual-in_err-put.ensures.1 in
    let read = next-so_far c.loop.invariant (omega arith) (g.V.Value.Wire.words.lawful _) (g.V.Value.Wire.words.balanced _) refl c.in_ok-item.ensures in
    rw (p.1, p.2, c.in_err-put.ensures) (refused-so_far tt read (omega arith))

pub loop-preserved : goal.loop-preserved
loop-preserved g c =
    next-so_far c.loop.invariant (omega arith) (g.V.Value.Wire.words.lawful _) (g.V.Value.Wire.words.balanced _) c.in_ok-put.ensures c.in_ok-item.ensures

pub returns : goal.returns
returns g c = finished-so_far c.finish.result c.loop.invariant (omega arith) c.finish.ensures
