use Rattle.std.proofs.Common.{◌++◌, ◌∷◌, [], refl, arith}
use Rattle.std.proofs.lemmas.Result.{err_from_is_err_and}
use Rattle.bincode_collections.proofs.Putting.{refused-so_far}
use Rattle.bincode_collections.proofs.Reading.{none-so_far, next-releases, next-so_far, stops-so_far, all-so_far}
use Rattle.bincode_collections.proofs.sets_and_maps.decode_items.Goals as goal

pub loop-init : goal.loop-init
loop-init g c = ([], c.in_ok-filling.ensures.begun, none-so_far c.requires)

pub returns-in_err-filling : goal.returns-in_err-filling
returns-in_err-filling g c =
    let p = err_from_is_err_and c.from_residual.result c.from_residual.ensures.1 in
    let r = c.in_err-filling.ensures.begun in
    rw (p.1, p.2, r.1) ([], tt, refused-so_far r.0 (none-so_far c.requires) (omega arith))

pub decode_next-requires : goal.decode_next-requires
decode_next-requires g c = next-releases c.loop.invariant.2 (omega arith)

pub returns-in_err-item : goal.returns-in_err-item
returns-in_err-item g c =
    let p = err_from_is_err_and c.from_residual-in_err-item.result c.from_residual-in_err-item.ensures.1 in
    rw (p.1, p.2) ([], tt, stops-so_far c.loop.invariant.2 (omega arith) (λ _. omega arith) c.in_err-item.ensures)

pub returns-in_err-put : goal.returns-in_err-put
returns-in_err-put g c =
    let p = err_from_is_err_and c.from_residual-in_err-put.result c.from_residual-in_err-put.ensures.1 in
    let i = c.loop.invariant in
    let read = next-so_far i.2 (omega arith) (g.V.Value.Wire.words.lawful _) (g.V.Value.Wire.words.balanced _) refl c.in_ok-item.ensures in
    rw (p.1, p.2, c.in_err-put.ensures) (i.0 ++ c.in_ok-item.item ∷ [], tt, refused-so_far (omega arith) read (omega arith))

pub loop-preserved : goal.loop-preserved
loop-preserved g c =
    let i = c.loop.invariant in (
      i.0 ++ c.in_ok-item.item ∷ [],
      c.in_ok-put.ensures i.0 i.1,
      next-so_far i.2 (omega arith) (g.V.Value.Wire.words.lawful _) (g.V.Value.Wire.words.balanced _) refl c.in_ok-item.ensures,
    )

pub returns : goal.returns
returns g c = let i = c.loop.invariant in (i.0, i.1, all-so_far i.2 (omega arith) refl)
