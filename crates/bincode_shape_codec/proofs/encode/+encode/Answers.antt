use Rattle.std.proofs.Common.{refl, sym, ◌∙◌, arith}
use Rattle.std.specs.Int.{w8}
use Rattle.std.proofs.lemmas.Int.{to_z-of_z}
use denote.Param.Weighed.{at_most}
use Rattle.bincode_shape.proofs.shape.Shape.TheLaws.{the_size}
use Rattle.std.proofs.lemmas.Result.{err_from_is_err_and}
use Rattle.bincode_encoder.proofs.EncodingAnswers.{encodes-as}
use Rattle.bincode_encoder.proofs.ListAnswers.{length-halts, list-encodes}
use Rattle.bincode_encoder.proofs.RunAnswers.{writes-more, writes-array, halts-at, halts_array}
use Rattle.bincode_spec.specs.Words.{tag}
use Rattle.bincode_shape.specs.Shapes.{share, byte_tag, option_variants, numbered_variants, format_of, IsMeant}
use Rattle.bincode_shape.specs.Rows.{formats, tests_of-vec}
use Rattle.bincode_shape.proofs.Fitting.{picked-at}
use Rattle.bincode_shape_codec.proofs.Picked.{picked, picked-there, picked-within, one_of-some}
use Rattle.bincode_shape_codec.proofs.Writing.{some-none}
use Rattle.bincode_shape_codec.proofs.Written as written
use Rattle.bincode_shape_codec.proofs.encode.+encode.Goals as goal

pub encode_list-returns-in_err-encode_length : goal.encode_list-returns-in_err-encode_length
encode_list-returns-in_err-encode_length g t c =
    let p = err_from_is_err_and c.from_residual.result c.from_residual.ensures.1 in
    λ claim. rw (p.1, p.2) (length-halts IsMeant _ claim _ c.args.items.now c.in_err-encode_length.ensures)

pub encode_list-returns : goal.encode_list-returns
encode_list-returns g t c = λ claim. list-encodes IsMeant _ claim _ c.args.items.now g.met.E.W.Writer.adds_join c.in_ok-encode_length.ensures (c.encode_items.ensures claim)

pub encode_items-returns-in_err-encode_shape : goal.encode_items-returns-in_err-encode_shape
encode_items-returns-in_err-encode_shape g t c =
    let p = err_from_is_err_and c.from_residual.result c.from_residual.ensures.1 in
    let halted = c.in_err-encode_shape.ensures in
    let items = c.args.items.now in
    λ claim. rw (p.1, p.2) (encodes-as (λ bytes a. a) (λ bytes a. a) (λ u. written.all_units items) (λ e k. k) (record {
      ok = tt;
      err = halts_array _ _ _ _ _ _ _ _ _ _ _ _ refl (halts-at _ _ g.met.E.W.Writer.adds_join (λ _. Unit {0})
          _ _ _ _ _ items c.loop-item.item-index _ _ (omega arith) c.item-item.is c.loop-item.invariant.0 halted.err);
      same_loans = halted.same_loans ∙ c.loop-item.invariant.1;
    }))

pub encode_items-loop-item-preserved : goal.encode_items-loop-item-preserved
encode_items-loop-item-preserved g t c = (
  writes-more _ g.met.E.W.Writer.adds_join _ _ _ _ c.args.items.now c.loop-item.item-index _ (omega arith) c.item-item.is c.loop-item.invariant.0 c.in_ok-encode_shape.ensures.ok,
  c.encode_shape.ensures.same_loans ∙ c.loop-item.invariant.1,
  written.all-after _ c.args.items.now c.loop-item.item-index c.item-item.result (omega arith) c.loop-item.invariant.2,
)

pub encode_items-encode_shape-requires : goal.encode_items-encode_shape-requires
encode_items-encode_shape-requires g t c =
    λ κs h. (omega (arith, c.decreases), (h.0, (h.1.0, (h.1.1, written.all-there _ c.args.items.now c.loop-item.item-index _ (omega arith) c.item-item.is c.loop-item.invariant.2))))

pub encode_items-returns : goal.encode_items-returns
encode_items-returns g t c =
    λ claim. record { ok = writes-array _ _ _ _ _ c.loop-item.item-index _ _ _ refl (omega arith) c.loop-item.invariant.0; err = tt; same_loans = c.loop-item.invariant.1 }

pub encode_optional-returns-in-None : goal.encode_optional-returns-in-None
encode_optional-returns-in-None g t c =
    rw (c.option_of.ensures, c.in-None.is) (written.tag-encodes byte_tag (option_variants (format_of c.args.part.now)) g.E.C.Config.setting 0 refl c.encode_byte.ensures)

pub encode_optional-returns-in_err-encode_byte-in-Some : goal.encode_optional-returns-in_err-encode_byte-in-Some
encode_optional-returns-in_err-encode_byte-in-Some g t c =
    let p = err_from_is_err_and c.from_residual.result c.from_residual.ensures.1 in
    rw (p.1, p.2, c.option_of.ensures, c.in-Some.is)
    (written.tag-halts byte_tag (option_variants (format_of c.args.part.now)) g.E.C.Config.setting 1 _ refl _ c.in_err-encode_byte-in-Some.ensures)

pub encode_optional-returns-in_ok-encode_byte-in-Some : goal.encode_optional-returns-in_ok-encode_byte-in-Some
encode_optional-returns-in_ok-encode_byte-in-Some g t c =
    rw (c.option_of.ensures, c.in-Some.is)
    (written.choice-encodes byte_tag (option_variants (format_of c.args.part.now)) g.E.C.Config.setting 1 _ refl _ g.met.E.W.Writer.adds_join
    c.in_ok-encode_byte-in-Some.ensures (rw c.deref.ensures at c.encode_shape.ensures))

pub encode_choice-bounds-parts-index : goal.encode_choice-bounds-parts-index
encode_choice-bounds-parts-index g t c = picked-within c.args.parts.now c.args.index c.args.held.now c.requires

pub encode_choice-encode_shape-requires : goal.encode_choice-encode_shape-requires
encode_choice-encode_shape-requires g t c =
    let parts = c.args.parts.now in
    let part = c.index-parts-index.result in
    let within = picked-within parts c.args.index c.args.held.now c.requires in
    let small = rw (← c.index-parts-index.is) at (at_most (λ x. the_size x) parts c.args.index part within) in
    λ κs h. (omega (arith, c.decreases, small), (h.0, (h.1.0, (h.1.1, sym (picked-at parts c.args.index part c.args.held.now within c.index-parts-index.is) ∙ c.requires))))

pub encode_choice-returns-in_err-encode_integer : goal.encode_choice-returns-in_err-encode_integer
encode_choice-returns-in_err-encode_integer g t c =
    let p = err_from_is_err_and c.from_residual.result c.from_residual.ensures.1 in
    let parts = c.args.parts.now in
    let n = c.args.index in
    let within = picked-within parts n c.args.held.now c.requires in
    let s = g.E.C.Config.setting in
    rw (p.1, p.2, one_of-some parts s (omega (arith, within)))
    (written.tag-halts tag (numbered_variants 0 (formats parts)) s n _ (picked-there s parts n within) _ c.in_err-encode_integer.ensures)

pub encode_choice-returns : goal.encode_choice-returns
encode_choice-returns g t c =
    let parts = c.args.parts.now in
    let n = c.args.index in
    let part = c.index-parts-index.result in
    let within = picked-within parts n c.args.held.now c.requires in
    let s = g.E.C.Config.setting in
    rw (one_of-some parts s (omega (arith, within)))
    (written.choice-encodes tag (numbered_variants 0 (formats parts)) s n (format_of part s) (picked s parts n part within c.index-parts-index.is) _ g.met.E.W.Writer.adds_join
    c.in_ok-encode_integer.ensures c.encode_shape.ensures)

pub encode_parts-bounds-items-index : goal.encode_parts-bounds-items-index
encode_parts-bounds-items-index g t c =
    let same = written.each-length c.args.parts.now c.args.items.now c.requires in omega (arith, same)

pub encode_parts-encode_shape-requires : goal.encode_parts-encode_shape-requires
encode_parts-encode_shape-requires g t c =
    let parts = c.args.parts.now in
    let items = c.args.items.now in
    let same = written.each-length parts items c.requires in
    let small = rw (← c.index-parts-index.is) at (at_most (λ x. the_size x) parts c.loop-index.index c.index-parts-index.result (omega arith)) in
    λ κs h. (
      omega (arith, c.decreases, small),
      (
        h.0,
        (
          h.1.0,
          (
            h.1.1,
            written.each-there g.E.C.Config.setting parts items c.loop-index.index _ _ (omega arith) (omega (arith, same))
                c.index-parts-index.is c.index-items-index.is c.loop-index.invariant.2,
          ),
        ),
      ),
    )

pub encode_parts-returns-in_err-encode_shape : goal.encode_parts-returns-in_err-encode_shape
encode_parts-returns-in_err-encode_shape g t c =
    let p = err_from_is_err_and c.from_residual.result c.from_residual.ensures.1 in
    let parts = c.args.parts.now in
    let items = c.args.items.now in
    let same = written.each-length parts items c.requires in
    let halted = c.in_err-encode_shape.ensures in
    rw (p.1, p.2) (record {
      ok = tt;
      err = written.parts-halt g.E.C.Config.setting parts items c.loop-index.index _ _ (omega arith) (omega (arith, same)) c.index-parts-index.is c.index-items-index.is _ _ _ _ _ _
          g.met.E.W.Writer.adds_join c.loop-index.invariant.0 halted.err;
      same_loans = halted.same_loans ∙ c.loop-index.invariant.1;
    })

pub encode_parts-loop-index-preserved : goal.encode_parts-loop-index-preserved
encode_parts-loop-index-preserved g t c =
    let parts = c.args.parts.now in
    let items = c.args.items.now in
    let same = written.each-length parts items c.requires in (
      written.parts-more g.E.C.Config.setting parts items c.loop-index.index _ _ (omega arith) (omega (arith, same)) c.index-parts-index.is c.index-items-index.is _
          g.E.W.Writer.refuses _ _ _ _ g.met.E.W.Writer.adds_join c.loop-index.invariant.0 c.in_ok-encode_shape.ensures.ok,
      c.encode_shape.ensures.same_loans ∙ c.loop-index.invariant.1,
      written.each-after g.E.C.Config.setting parts items c.loop-index.index _ _ (omega arith) (omega (arith, same)) c.index-parts-index.is c.index-items-index.is c.loop-index.invariant.2,
    )

pub encode_parts-returns : goal.encode_parts-returns
encode_parts-returns g t c =
    let h = c.loop-index.invariant in
    record {
      ok = written.parts-written _ g.E.C.Config.setting c.args.parts.now c.args.items.now c.loop-index.index _ _ _ (omega arith) h.2 h.0;
      err = tt;
      same_loans = h.1;
    }

pub encode_shape-items_for-requires : goal.encode_shape-items_for-requires
encode_shape-items_for-requires g t c = rw (c.deref-in-Tuple-2.ensures.value, ← tests_of-vec c.in-Tuple.parts) (rw c.in-Tuple.is at c.requires)

pub encode_shape-choice_for-index-requires : goal.encode_shape-choice_for-index-requires
encode_shape-choice_for-index-requires g t c = rw (c.deref-in-Choice.ensures.value, ← tests_of-vec c.in-Choice.parts) (rw c.in-Choice.is at c.requires)

pub encode_shape-returns-in-Unit : goal.encode_shape-returns-in-Unit
encode_shape-returns-in-Unit g t c =
    rw (c.in-Unit.is, written.unit-is c.args.value.now (rw c.in-Unit.is at c.requires)) (written.unit-encodes _ g.E.C.Config.setting c.args.encoder.now g.met.E.W.Writer.adds_none)

pub encode_shape-returns-in-Bool : goal.encode_shape-returns-in-Bool
encode_shape-returns-in-Bool g t c = rw (c.in-Bool.is, c.truth_of.ensures) c.encode_truth.ensures

pub encode_shape-returns-in-Char : goal.encode_shape-returns-in-Char
encode_shape-returns-in-Char g t c = rw (c.in-Char.is, c.char_of.ensures) c.encode_char.ensures

pub encode_shape-returns-in-Text : goal.encode_shape-returns-in-Text
encode_shape-returns-in-Text g t c =
    let text = c.text_of.ensures in rw (c.in-Text.is, text.1) (rw text.2 at c.encode_text.ensures)

pub encode_shape-returns-in-U8 : goal.encode_shape-returns-in-U8
encode_shape-returns-in-U8 g t c = rw (c.in-U8.is, c.byte_of.ensures) c.encode_byte.ensures

pub encode_shape-returns-in-I8 : goal.encode_shape-returns-in-I8
encode_shape-returns-in-I8 g t c = rw (c.in-I8.is, c.signed_byte_of.ensures.value) (rw (to_z-of_z w8 c.signed_byte_of.result c.signed_byte_of.ensures.fits) at c.encode_signed_byte.ensures)

pub encode_shape-returns-in-Seq : goal.encode_shape-returns-in-Seq
encode_shape-returns-in-Seq g t c =
    let items = c.items_of.ensures in
    rw (c.in-Seq.is, items.1)
    (written.seq-encodes g.E.C.Config.setting c.in-Seq.claim c.in-Seq.element items.0 (rw (c.deref.ensures, items.2) at (c.encode_list.ensures (share c.in-Seq.claim))))

pub encode_shape-returns-in-Array : goal.encode_shape-returns-in-Array
encode_shape-returns-in-Array g t c =
    let items = c.items_of-in-Array.ensures in
    let array = c.in-Array in
    rw (array.is, items.1)
    (written.array-encodes g.E.C.Config.setting array.len array.claim array.element items.0 (written.array-length array.len array.claim array.element items.0 (rw (array.is, items.1) at c.requires))
    (rw (c.deref-in-Array.ensures, items.2) at (c.encode_items.ensures (share array.claim))))

pub encode_shape-returns-in-Tuple : goal.encode_shape-returns-in-Tuple
encode_shape-returns-in-Tuple g t c =
    let items = c.items_for.ensures.list in
    rw (c.in-Tuple.is, items.1) (written.tuple-encodes g.E.C.Config.setting c.in-Tuple.parts items.0 (rw (c.deref-in-Tuple.ensures.value, items.2) at c.encode_parts.ensures))

pub encode_shape-returns-in-Choice : goal.encode_shape-returns-in-Choice
encode_shape-returns-in-Choice g t c =
    let choice = c.choice_for-index.ensures.choice in
    rw (c.in-Choice.is, choice.1)
    (written.one_of-encodes g.E.C.Config.setting c.in-Choice.parts c.choice_for-index.result.0 choice.0 (rw (c.deref-in-Choice-2.ensures.value, choice.2) at c.encode_choice.ensures))

pub encode_parts-loop-index-init : goal.encode_parts-loop-index-init
encode_parts-loop-index-init g t c = (some-none _ g.met.E.W.Writer.adds_none _ _, refl, c.requires)
