use Rattle.std.proofs.Common.{◌∷◌, ◌++◌, ◌-◌, ◌+◌, [], length, refl, sym, ap, ◌∙◌, arith}
use Rattle.std.proofs.lemmas.Bool.{eqb-true}
use Rattle.std.proofs.lemmas.Result.{err_from_is_err_and}
use Rattle.bincode_lemmas.specs.RunLaws.{array-passed}
use Rattle.bincode_decoder.proofs.ReadAnswers.{claim-passed}
use Rattle.bincode_shape.specs.declared.shape.Shape as shapes
use Rattle.bincode_shape.specs.Counts.{count_of, count_each, count_parts, count_some, count_choice, as_u128}
use Rattle.bincode_shape.specs.Rows.{counts, formats_of-vec, counts_of-vec}
use Rattle.bincode_shape.specs.ShapeLaws.{format_of-lawful, format_of-balanced}
use Rattle.bincode_collections.proofs.Containers.{array-reads, length-stops, length-reads, reads-with}
use Rattle.bincode_collections.proofs.Reading.{none-so_far, next-releases, next-so_far, stops-so_far, all-so_far}
use Rattle.bincode_shape_codec.proofs.Alike.{copies, shape-empty, alike-so_far}
use Rattle.bincode_shape_codec.proofs.Counting as counting
use Rattle.bincode_shape_codec.proofs.Parts as parts
use Rattle.bincode_shape_codec.proofs.Optional as optional
use Rattle.bincode_shape_codec.proofs.Chosen as chosen
use Rattle.bincode_shape_codec.proofs.Picked.{some-parts}
use Rattle.bincode_shape_codec.proofs.measure.+measure.Goals as goal

pub measure_list-returns-in_err-len : goal.measure_list-returns-in_err-len
measure_list-returns-in_err-len g t c =
    let p = err_from_is_err_and c.from_residual.result c.from_residual.ensures.1 in
    rw (p.1, p.2) (length-stops g.D.C.Config.setting _ _ c.in_err-len.ensures.reads)

pub measure_list-returns : goal.measure_list-returns
measure_list-returns g t c = length-reads g.D.C.Config.setting _ _ c.in_ok-len.ensures.reads c.measure_array.ensures

pub measure_array-returns-in_err-claim_room : goal.measure_array-returns-in_err-claim_room
measure_array-returns-in_err-claim_room g t c =
    let p = err_from_is_err_and c.from_residual.result c.from_residual.ensures.1 in
    let h = c.in_err-claim_room.ensures.claimed.err in
    let kept = c.claim_room.ensures.kept in
    rw (p.1, p.2) (claim-passed kept _ h.1 (array-passed _ _ _ _ _ _ _ _ _ _ _ _ _ _ h.1 h.0 kept.same_remaining))

pub measure_array-returns : goal.measure_array-returns
measure_array-returns g t c =
    let run = c.measure_elements.ensures in
    reads-with c.measure_elements.result (λ m n is sum. sum ∙ counting.total-counted (count_of c.args.element.now) run.0 m is) run.2
    (array-reads c.claim_room.ensures.kept c.in_ok-claim_room.ensures.claimed.ok run.1)

pub measure_each-loop-init : goal.measure_each-loop-init
measure_each-loop-init g t c = ([], none-so_far c.requires, omega arith)

pub measure_each-measure_element-requires : goal.measure_each-measure_element-requires
measure_each-measure_element-requires g t c = λ κs h. (omega (arith, c.decreases), (h.0, (h.1.0, (h.1.1.0, (h.1.1.1.0, (h.1.1.1.1, next-releases c.loop.invariant.1 (omega arith)))))))

pub measure_each-returns-in_err-values : goal.measure_each-returns-in_err-values
measure_each-returns-in_err-values g t c =
    let p = err_from_is_err_and c.from_residual.result c.from_residual.ensures.1 in
    rw (p.1, p.2) ([], stops-so_far c.loop.invariant.1 (omega arith) (λ h. h) c.in_err-values.ensures, tt)

pub measure_each-loop-preserved : goal.measure_each-loop-preserved
measure_each-loop-preserved g t c =
    let h = c.loop.invariant in
    let v = c.in_ok-values.values in
    let sum = counting.total-push h.0 v in (
      h.0 ++ v ∷ [],
      next-so_far h.1 (omega arith) (format_of-lawful c.args.element.now g.D.C.Config.setting) (format_of-balanced c.args.element.now g.D.C.Config.setting) refl c.in_ok-values.ensures,
      omega (arith, sum, h.2, c.saturating_add-count.ensures),
    )

pub measure_each-returns : goal.measure_each-returns
measure_each-returns g t c = let h = c.loop.invariant in (h.0, all-so_far h.1 (omega arith) refl, h.2)

pub measure_alike-returns-in_err-values : goal.measure_alike-returns-in_err-values
measure_alike-returns-in_err-values g t c =
    let p = err_from_is_err_and c.from_residual.result c.from_residual.ensures.1 in
    rw (p.1, p.2) ([], stops-so_far (none-so_far c.requires.room) c.requires.some (λ h. h) c.in_err-values.ensures, tt)

pub measure_alike-returns : goal.measure_alike-returns
measure_alike-returns g t c =
    let element = c.args.element.now in
    let s = g.D.C.Config.setting in
    let v = c.in_ok-values.values in
    let sum = counting.total-alike c.args.len v c.requires.some in (
      v ∷ copies (c.args.len - 1) v,
      all-so_far
          (alike-so_far (shape-empty element s c.requires.bytes) (format_of-lawful element s) (format_of-balanced element s) c.requires.some c.requires.within c.requires.room
          c.in_ok-values.ensures c.release_room.ensures) refl refl,
      c.saturating_mul.ensures ∙ ap as_u128 (sym sum),
    )

pub measure_parts-loop-part-init : goal.measure_parts-loop-part-init
measure_parts-loop-part-init g t c = counting.none-counted

pub measure_parts-returns-in_err-values : goal.measure_parts-returns-in_err-values
measure_parts-returns-in_err-values g t c =
    let p = err_from_is_err_and c.from_residual.result c.from_residual.ensures.1 in
    rw (p.1, p.2)
    (counting.stops-counted c.loop-part.invariant (parts.next-part c.args.parts.now c.loop-part.part-index _ (omega arith) c.part-item.is) (λ h. h) c.in_err-values.ensures)

pub measure_parts-loop-part-preserved : goal.measure_parts-loop-part-preserved
measure_parts-loop-part-preserved g t c =
    counting.next-counted c.loop-part.invariant (parts.next-part c.args.parts.now c.loop-part.part-index _ (omega arith) c.part-item.is) c.saturating_add-count.ensures c.in_ok-values.ensures

pub measure_parts-returns : goal.measure_parts-returns
measure_parts-returns g t c = counting.all-counted c.loop-part.invariant (parts.no-part c.args.parts.now c.loop-part.part-index (omega arith))

pub measure_optional-returns-in-Ok-eq0 : goal.measure_optional-returns-in-Ok-eq0
measure_optional-returns-in-Ok-eq0 g t c = optional.none-reads g.D.C.Config.setting c.args.part.now (omega arith) (omega arith) c.in-Ok-eq0.ensures.reads

pub measure_optional-returns-in-Ok-eq1 : goal.measure_optional-returns-in-Ok-eq1
measure_optional-returns-in-Ok-eq1 g t c = counting.some-counted g.D.C.Config.setting c.args.part.now c.measure_shape.result (omega arith) c.in-Ok-eq1.ensures.reads c.measure_shape.ensures

pub measure_optional-returns-in-Ok : goal.measure_optional-returns-in-Ok
measure_optional-returns-in-Ok g t c =
    optional.tag-stops g.D.C.Config.setting c.args.part.now (λ e. omega (arith, e)) (λ e. omega (arith, e)) (c.new.result, refl) c.in-Ok.ensures.reads

pub measure_optional-returns-in-Err : goal.measure_optional-returns-in-Err
measure_optional-returns-in-Err g t c = optional.byte-stops g.D.C.Config.setting c.args.part.now c.in-Err.ensures.reads

pub measure_choice-returns-then-is_empty : goal.measure_choice-returns-then-is_empty
measure_choice-returns-then-is_empty g t c = chosen.none-stops g.D.C.Config.setting c.args.parts.now (eqb-true (length c.args.parts.now) 0 (sym c.if-is_empty.ensures)) (c.new.result, refl)

pub measure_choice-returns-in-Some : goal.measure_choice-returns-in-Some
measure_choice-returns-in-Some g t c =
    let found = c.in-Some.ensures.lookup in
    counting.held-counted g.D.C.Config.setting c.args.parts.now c.in-Ok.found c.in-Some.part.now c.measure_shape.result (some-parts (length c.args.parts.now) c.if-is_empty.ensures) found.3.0 found.1
    c.in-Ok.ensures.reads c.measure_shape.ensures

pub measure_choice-returns-in-None : goal.measure_choice-returns-in-None
measure_choice-returns-in-None g t c =
    let none = c.in-None.ensures.lookup in
    let some = some-parts (length c.args.parts.now) c.if-is_empty.ensures in
    chosen.unpicked-stops g.D.C.Config.setting c.args.parts.now some (omega (arith, some)) none.3 (c.new-in-None.result, refl) c.in-Ok.ensures.reads

pub measure_choice-returns-in-Err : goal.measure_choice-returns-in-Err
measure_choice-returns-in-Err g t c = chosen.tag-stops g.D.C.Config.setting c.args.parts.now (some-parts (length c.args.parts.now) c.if-is_empty.ensures) c.in-Err.ensures.reads

pub measure_shape-returns-in-Seq : goal.measure_shape-returns-in-Seq
measure_shape-returns-in-Seq g t c =
    rw (c.in-Seq.is, c.with_itself.ensures) (counting.whole-counted (count_each (count_of c.in-Seq.element.value)) (count_of (shapes.Seq c.in-Seq.claim c.in-Seq.element)) c.measure_list.result (λ m. refl) (rw (c.max.ensures, c.deref.ensures) at c.measure_list.ensures))

pub measure_shape-returns-in-Array : goal.measure_shape-returns-in-Array
measure_shape-returns-in-Array g t c =
    rw (c.in-Array.is, c.with_itself-in-Array.ensures)
    (counting.whole-counted (count_each (count_of c.in-Array.element.value)) (count_of (shapes.Array c.in-Array.len c.in-Array.claim c.in-Array.element)) c.measure_array.result (λ m. refl) (rw (c.max-in-Array.ensures, c.deref-in-Array.ensures) at c.measure_array.ensures))

pub measure_shape-returns-in-Tuple : goal.measure_shape-returns-in-Tuple
measure_shape-returns-in-Tuple g t c =
    rw (c.in-Tuple.is, c.with_itself-in-Tuple.ensures, formats_of-vec c.in-Tuple.parts)
    (counting.whole-counted (count_parts (counts c.in-Tuple.parts.items)) (count_of (shapes.Tuple c.in-Tuple.parts)) c.measure_parts.result (λ m. ap (λ z. count_parts z m + 1) (counts_of-vec c.in-Tuple.parts)) (rw c.deref-in-Tuple.ensures.value at c.measure_parts.ensures))

pub measure_shape-returns-in-Optional : goal.measure_shape-returns-in-Optional
measure_shape-returns-in-Optional g t c =
    rw (c.in-Optional.is, c.with_itself-in-Optional.ensures)
    (counting.whole-counted (count_some (count_of c.in-Optional.part.value)) (count_of (shapes.Optional c.in-Optional.part)) c.measure_optional.result (λ m. refl) (rw c.deref-in-Optional.ensures at c.measure_optional.ensures))

pub measure_shape-returns-in-Choice : goal.measure_shape-returns-in-Choice
measure_shape-returns-in-Choice g t c =
    rw (c.in-Choice.is, c.with_itself-in-Choice.ensures, formats_of-vec c.in-Choice.parts)
    (counting.whole-counted (count_choice (counts c.in-Choice.parts.items)) (count_of (shapes.Choice c.in-Choice.parts)) c.measure_choice.result (λ m. ap (λ z. count_choice z m + 1) (counts_of-vec c.in-Choice.parts)) (rw c.deref-in-Choice.ensures.value at c.measure_choice.ensures))
