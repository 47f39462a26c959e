use Rattle.std.proofs.Common.{◌++◌, ◌∷◌, [], Some, refl, sym, ap, ◌∙◌, arith}
use Rattle.std.proofs.lemmas.List.{length_push, length-set, map-append, take_more_set}
use Rattle.bincode_base.proofs.Collected.{yields-more}
use Rattle.bincode_base.proofs.slots.fill.Goals as goal

pub loop-index-init : goal.loop-index-init
loop-index-init g c = ([], refl, refl, refl, refl, c.requires)

pub returns-in-Some-Err : goal.returns-in-Some-Err
returns-in-Some-Err g c =
    let h = c.loop-index.invariant in
    (h.0, omega (arith, h.1, h.2, c.loop-index-test.true), (c.loop-index.iter, h.4, rw c.in-Some-Err.field-0-is at c.in-Some-Err.ensures.steps))

pub loop-index-preserved : goal.loop-index-preserved
loop-index-preserved g c =
    let h = c.loop-index.invariant in
    let items = h.0 in
    let x = c.in-Some-Ok.value in (
      items ++ x ∷ [],
      omega (arith, h.1, length_push items x),
      omega (arith, h.2, length-set c.loop-index.slots c.loop-index.index (Some x)),
      take_more_set _ _ _ (omega arith) ∙
          (ap (λ z. z ++ Some x ∷ []) h.3 ∙ sym (map-append Some items (x ∷ []))),
      yields-more g.I.Iterator.next_gives c.args.iter.now c.loop-index.iter c.next_item.new.iter items x c.in-Some-Ok.field-0 c.in-Some-Ok.field-0-is h.4 c.in-Some-Ok.ensures.steps,
      c.in-Some-Ok.ensures.keeps,
    )
