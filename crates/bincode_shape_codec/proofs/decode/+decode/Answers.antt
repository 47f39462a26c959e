use Rattle.std.proofs.Common.{◌+◌, ◌∷◌, [], length, refl, sym, ap, ◌∙◌, arith}
use Rattle.std.proofs.lemmas.Bool.{eqb-true}
use Rattle.std.proofs.lemmas.List.{length-append}
use Rattle.std.proofs.lemmas.Result.{err_from_is_err_and}
use Rattle.bincode_lemmas.specs.RunLaws.{array-passed}
use Rattle.bincode_spec.specs.Decoding.{by_memory}
use Rattle.bincode_spec.specs.Meaning.{Choice}
use Rattle.bincode_decoder.proofs.Rooms.{held-still}
use Rattle.bincode_decoder.proofs.ReadAnswers.{claim-passed}
use Rattle.bincode_shape.specs.ShapeLaws.{format_of-lawful, format_of-balanced}
use Rattle.bincode_collections.proofs.MadeAnswers.{read-refused, read-failed}
use Rattle.bincode_collections.proofs.Containers.{array-reads, length-stops, length-reads}
use Rattle.bincode_collections.proofs.Reading.{none-so_far, next-releases, next-so_far, stops-so_far, all-so_far}
use Rattle.bincode_shape_codec.proofs.Parts as parts
use Rattle.bincode_shape_codec.proofs.Images as images
use Rattle.bincode_shape_codec.proofs.Optional as optional
use Rattle.bincode_shape_codec.proofs.Chosen as chosen
use Rattle.bincode_shape_codec.proofs.Picked.{some-parts}
use Rattle.bincode_shape_codec.proofs.decode.+decode.Goals as goal

pub decode_array-returns-in_err-claim_room-clause-read : goal.decode_array-returns-in_err-claim_room-clause-read
decode_array-returns-in_err-claim_room-clause-read g t c =
    let p = err_from_is_err_and c.from_residual.result c.from_residual.ensures.1 in
    let h = c.in_err-claim_room.ensures.claimed.err in
    let kept = c.claim_room.ensures.kept in
    rw (p.1, p.2) (claim-passed kept _ h.1 (array-passed _ _ _ _ _ _ _ _ _ _ _ _ _ _ h.1 h.0 kept.same_remaining))

pub decode_array-returns-clause-read : goal.decode_array-returns-clause-read
decode_array-returns-clause-read g t c = array-reads c.claim_room.ensures.kept c.in_ok-claim_room.ensures.claimed.ok c.decode_elements.ensures.read

pub decode_list-returns-in_err-len : goal.decode_list-returns-in_err-len
decode_list-returns-in_err-len g t c =
    let p = err_from_is_err_and c.from_residual.result c.from_residual.ensures.1 in
    rw (p.1, p.2) (length-stops g.D.C.Config.setting _ _ c.in_err-len.ensures.reads)

pub decode_list-returns : goal.decode_list-returns
decode_list-returns g t c = length-reads g.D.C.Config.setting _ _ c.in_ok-len.ensures.reads c.decode_array.ensures.read

pub decode_elements-loop-init : goal.decode_elements-loop-init
decode_elements-loop-init g t c = (rw c.in-Ok.ensures.items (none-so_far c.requires), rw c.in-Ok.ensures.items refl, c.in-Ok.ensures.len, c.in-Ok.ensures.exact)

pub decode_elements-decode_element-requires : goal.decode_elements-decode_element-requires
decode_elements-decode_element-requires g t c = λ κs h. (omega (arith, c.decreases), (h.0, (h.1.0, (h.1.1.0, (h.1.1.1, next-releases c.loop.invariant.0 (omega arith))))))

pub decode_elements-returns-in_err-value-clause-read : goal.decode_elements-returns-in_err-value-clause-read
decode_elements-returns-in_err-value-clause-read g t c =
    let p = err_from_is_err_and c.from_residual.result c.from_residual.ensures.1 in
    rw (p.1, p.2) (stops-so_far c.loop.invariant.0 (omega arith) (λ _. tt) c.in_err-value.ensures)

pub decode_elements-returns-in_default-clause-read : goal.decode_elements-returns-in_default-clause-read
decode_elements-returns-in_default-clause-read g t c = record {
  ok = λ known. tt;
  err = λ known. by_memory tt refl ([], refl);
  failures_monotone = omega arith;
  tells = λ known. known;
  charge_kept = held-still _ _ _;
  within = λ _. tt;
  same_loans = refl;
}

pub decode_elements-loop-preserved : goal.decode_elements-loop-preserved
decode_elements-loop-preserved g t c =
    let h = c.loop.invariant in
    let v = c.in_ok-value.value in (
      next-so_far h.0 (omega arith) (format_of-lawful c.args.element.now g.D.C.Config.setting) (format_of-balanced c.args.element.now g.D.C.Config.setting) c.push_reserved.ensures.items c.in_ok-value.ensures,
      ap length c.push_reserved.ensures.items ∙ length-append c.loop.values.items (v ∷ []) ∙ ap (λ z. z + 1) h.1,
      c.push_reserved.ensures.len ∙ ap (λ z. z + 1) h.2,
      c.push_reserved.ensures.capacity ∙ h.3,
    )

pub decode_elements-returns-clause-read : goal.decode_elements-returns-clause-read
decode_elements-returns-clause-read g t c = all-so_far c.loop.invariant.0 (omega arith) refl

pub decode_parts-loop-part-init : goal.decode_parts-loop-part-init
decode_parts-loop-part-init g t c = (rw c.in-Ok.ensures.items parts.none-so_far, c.in-Ok.ensures.len, c.in-Ok.ensures.exact)

pub decode_parts-returns-in_err-value-clause-read : goal.decode_parts-returns-in_err-value-clause-read
decode_parts-returns-in_err-value-clause-read g t c =
    let p = err_from_is_err_and c.from_residual.result c.from_residual.ensures.1 in
    rw (p.1, p.2)
    (parts.stops-so_far c.loop-part.invariant.0 (parts.next-part c.args.parts.now c.loop-part.part-index _ (omega arith) c.part-item.is) (λ _. tt) c.in_err-value.ensures)

pub decode_parts-returns-in_default-clause-read : goal.decode_parts-returns-in_default-clause-read
decode_parts-returns-in_default-clause-read g t c = parts.refused-so_far parts.none-so_far

pub decode_parts-loop-part-preserved : goal.decode_parts-loop-part-preserved
decode_parts-loop-part-preserved g t c =
    let h = c.loop-part.invariant in (
      parts.next-so_far h.0 (parts.next-part c.args.parts.now c.loop-part.part-index _ (omega arith) c.part-item.is) c.push_reserved.ensures.items c.in_ok-value.ensures,
      c.push_reserved.ensures.len ∙ ap (λ z. z + 1) h.1,
      c.push_reserved.ensures.capacity ∙ h.2,
    )

pub decode_parts-returns-clause-read : goal.decode_parts-returns-clause-read
decode_parts-returns-clause-read g t c = parts.all-so_far c.loop-part.invariant.0 (parts.no-part c.args.parts.now c.loop-part.part-index (omega arith)) refl

pub decode_shape-returns-in-Unit : goal.decode_shape-returns-in-Unit
decode_shape-returns-in-Unit g t c = rw c.in-Unit.is (images.unit-reads g.D.C.Config.setting c.args.decoder.now)

pub decode_shape-returns-in-Ok : goal.decode_shape-returns-in-Ok
decode_shape-returns-in-Ok g t c =
    rw c.in-Seq.is
    (images.seq-reads g.D.C.Config.setting c.in-Seq.claim c.in-Seq.element c.in-Ok.items (rw (c.max.ensures, c.deref.ensures) at c.in-Ok.ensures))

pub decode_shape-returns-in-Err : goal.decode_shape-returns-in-Err
decode_shape-returns-in-Err g t c = rw c.in-Seq.is (images.stops-alike (λ h. h) (rw (c.max.ensures, c.deref.ensures) at c.in-Err.ensures))

pub decode_shape-returns-in-Ok-decode_array : goal.decode_shape-returns-in-Ok-decode_array
decode_shape-returns-in-Ok-decode_array g t c =
    rw c.in-Array.is
    (images.array-reads g.D.C.Config.setting c.in-Array.len c.in-Array.claim c.in-Array.element c.in-Ok-decode_array.items c.in-Ok-decode_array.ensures.length
    (rw (c.max-in-Array.ensures, c.deref-in-Array.ensures) at c.in-Ok-decode_array.ensures.read))

pub decode_shape-returns-in-Err-decode_array : goal.decode_shape-returns-in-Err-decode_array
decode_shape-returns-in-Err-decode_array g t c =
    rw c.in-Array.is (images.stops-alike (λ h. h) (rw (c.max-in-Array.ensures, c.deref-in-Array.ensures) at c.in-Err-decode_array.ensures.read))

pub decode_shape-returns-in-Ok-decode_parts : goal.decode_shape-returns-in-Ok-decode_parts
decode_shape-returns-in-Ok-decode_parts g t c =
    rw c.in-Tuple.is
    (images.tuple-reads g.D.C.Config.setting c.in-Tuple.parts c.in-Ok-decode_parts.items (rw c.deref-in-Tuple.ensures.value at c.in-Ok-decode_parts.ensures.read))

pub decode_shape-returns-in-Err-decode_parts : goal.decode_shape-returns-in-Err-decode_parts
decode_shape-returns-in-Err-decode_parts g t c =
    rw c.in-Tuple.is (images.tuple-stops g.D.C.Config.setting c.in-Tuple.parts (rw c.deref-in-Tuple.ensures.value at c.in-Err-decode_parts.ensures.read))

pub decode_held-returns-in_err-value : goal.decode_held-returns-in_err-value
decode_held-returns-in_err-value g t c =
    let p = err_from_is_err_and c.from_residual.result c.from_residual.ensures.1 in
    rw (p.1, p.2) (read-failed c.in_err-value.ensures)

pub decode_held-returns : goal.decode_held-returns
decode_held-returns g t c = read-refused (format_of-lawful c.args.part.now g.D.C.Config.setting) refl c.in_ok-value.ensures

pub decode_optional-returns-in-Ok-eq0 : goal.decode_optional-returns-in-Ok-eq0
decode_optional-returns-in-Ok-eq0 g t c = optional.none-reads g.D.C.Config.setting c.args.part.now (omega arith) refl c.in-Ok-eq0.ensures.reads

pub decode_optional-returns-in-Ok-decode_held : goal.decode_optional-returns-in-Ok-decode_held
decode_optional-returns-in-Ok-decode_held g t c =
    optional.some-reads g.D.C.Config.setting c.args.part.now (omega arith) (λ m h. (h.0, ap (Choice 1) h.1)) c.in-Ok-eq1.ensures.reads c.in-Ok-decode_held.ensures

pub decode_optional-returns-in-Err-decode_held : goal.decode_optional-returns-in-Err-decode_held
decode_optional-returns-in-Err-decode_held g t c =
    optional.some-stops g.D.C.Config.setting c.args.part.now (omega arith) c.in-Ok-eq1.ensures.reads c.in-Err-decode_held.ensures

pub decode_optional-returns-in-Ok : goal.decode_optional-returns-in-Ok
decode_optional-returns-in-Ok g t c =
    optional.tag-stops g.D.C.Config.setting c.args.part.now (λ e. omega (arith, e)) (λ e. omega (arith, e)) (c.new.result, refl) c.in-Ok.ensures.reads

pub decode_optional-returns-in-Err : goal.decode_optional-returns-in-Err
decode_optional-returns-in-Err g t c = optional.byte-stops g.D.C.Config.setting c.args.part.now c.in-Err.ensures.reads

pub decode_shape-returns-in-Err-decode_optional : goal.decode_shape-returns-in-Err-decode_optional
decode_shape-returns-in-Err-decode_optional g t c = rw c.in-Optional.is (images.stops-alike (λ h. h) (rw c.deref-in-Optional.ensures at c.in-Err-decode_optional.ensures))

pub decode_choice-returns-then-is_empty : goal.decode_choice-returns-then-is_empty
decode_choice-returns-then-is_empty g t c = chosen.none-stops g.D.C.Config.setting c.args.parts.now (eqb-true (length c.args.parts.now) 0 (sym c.if-is_empty.ensures)) (c.new.result, refl)

pub decode_choice-returns-in-Ok-decode_held : goal.decode_choice-returns-in-Ok-decode_held
decode_choice-returns-in-Ok-decode_held g t c =
    let found = c.in-Some.ensures.lookup in
    chosen.held-reads g.D.C.Config.setting c.args.parts.now (some-parts (length c.args.parts.now) c.if-is_empty.ensures) found.3.0 found.1
    (chosen.chosen-image c.args.parts.now c.in-Ok.found c.in-Some.part.now c.in-Ok-decode_held.held found.3.0 found.1) c.in-Ok.ensures.reads c.in-Ok-decode_held.ensures

pub decode_choice-returns-in-Err-decode_held : goal.decode_choice-returns-in-Err-decode_held
decode_choice-returns-in-Err-decode_held g t c =
    let found = c.in-Some.ensures.lookup in
    chosen.held-stops g.D.C.Config.setting c.args.parts.now (some-parts (length c.args.parts.now) c.if-is_empty.ensures) found.3.0 found.1 c.in-Ok.ensures.reads c.in-Err-decode_held.ensures

pub decode_choice-returns-in-None : goal.decode_choice-returns-in-None
decode_choice-returns-in-None g t c =
    let none = c.in-None.ensures.lookup in
    let some = some-parts (length c.args.parts.now) c.if-is_empty.ensures in
    chosen.unpicked-stops g.D.C.Config.setting c.args.parts.now some (omega (arith, some)) none.3 (c.new-in-None.result, refl) c.in-Ok.ensures.reads

pub decode_choice-returns-in-Err : goal.decode_choice-returns-in-Err
decode_choice-returns-in-Err g t c = chosen.tag-stops g.D.C.Config.setting c.args.parts.now (some-parts (length c.args.parts.now) c.if-is_empty.ensures) c.in-Err.ensures.reads

pub decode_shape-returns-in-Ok-decode_choice : goal.decode_shape-returns-in-Ok-decode_choice
decode_shape-returns-in-Ok-decode_choice g t c =
    rw c.in-Choice.is
    (chosen.choice-reads g.D.C.Config.setting c.in-Choice.parts c.in-Ok-decode_choice.index c.in-Ok-decode_choice.held
    (rw c.deref-in-Choice.ensures.value at c.in-Ok-decode_choice.ensures))

pub decode_shape-returns-in-Err-decode_choice : goal.decode_shape-returns-in-Err-decode_choice
decode_shape-returns-in-Err-decode_choice g t c =
    rw c.in-Choice.is (chosen.choice-stops g.D.C.Config.setting c.in-Choice.parts (rw c.deref-in-Choice.ensures.value at c.in-Err-decode_choice.ensures))
