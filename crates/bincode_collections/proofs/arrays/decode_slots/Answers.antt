use Rattle.std.proofs.Common.{◌++◌, ◌∷◌, [], Some, refl, sym, ap, ◌∙◌, arith}
use Rattle.std.proofs.lemmas.Result.{err_from_is_err_and}
use Rattle.std.proofs.lemmas.List.{map-append, take_more_set, take_all}
use Rattle.bincode_collections.proofs.Reading.{none-so_far, next-releases, next-so_far, stops-so_far, all-so_far}
use Rattle.bincode_collections.proofs.arrays.decode_slots.Goals as goal

pub loop-index-init : goal.loop-index-init
loop-index-init g c = ([], refl, none-so_far c.requires)

pub decode_next-requires : goal.decode_next-requires
decode_next-requires g c = next-releases c.loop-index.invariant.2 (omega arith)

pub returns-in_err-decode_next : goal.returns-in_err-decode_next
returns-in_err-decode_next g c =
    let p = err_from_is_err_and c.from_residual.result c.from_residual.ensures.1 in
    rw (p.1, p.2) ([], tt, stops-so_far c.loop-index.invariant.2 (omega arith) (λ k. k) c.in_err-decode_next.ensures)

pub loop-index-preserved : goal.loop-index-preserved
loop-index-preserved g c =
    let h = c.loop-index.invariant in
    let v = c.in_ok-decode_next.field-0 in (
      h.0 ++ v ∷ [],
      take_more_set _ _ _ (omega arith) ∙ (ap (λ z. z ++ Some v ∷ []) h.1 ∙ sym (map-append Some h.0 (v ∷ []))),
      next-so_far h.2 (omega arith) (g.V.Value.Wire.words.lawful _) (g.V.Value.Wire.words.balanced _) refl c.in_ok-decode_next.ensures,
    )

pub returns : goal.returns
returns g c =
    let h = c.loop-index.invariant in
    (h.0, sym (take_all c.loop-index.index c.loop-index.slots (omega arith)) ∙ h.1, all-so_far h.2 (omega arith) refl)
