use Rattle.std.proofs.Common.{◌≡◌, ◌&&◌, ◌||◌, ◌∙◌, sym, length, refl}
use Rattle.std.proofs.lemmas.Bool.{eqb-false}
use Rattle.bincode_shape.specs.declared.shape.Shape.{items_hidden-the_row-Shape-0}
use Rattle.bincode_evolution.specs.Lists.{all-vec, some-vec, parts-vec}
use Rattle.bincode_evolution.proofs.compare.+compare.Goals as goal
use Rattle.bincode_evolution.proofs.compare.+compare.Goals.{compare_variants-then-has_words, compare_variants-else-has_words, compare_variants-then-is_read, compare_variants-else-is_read}
use Rattle.bincode_evolution.proofs.Stepping.{variants-more, lacking, nothing_lacks, array_lacks, array_has, tuple_lacks, tuple_reads_array, tuple_lacks_array}

pub compare_variants-loop-index-preserved : goal.compare_variants-loop-index-preserved
compare_variants-loop-index-preserved t c =
    let has : c.if-has_words.has_words ≡ (c.loop-index.has_words || c.compare_variant-compared.result.has_words) =
    elim c.if-has_words.branch [
      | compare_variants-then-has_words w ↦ rw (w.has_words-is, w.if-has_words.true) refl
      | compare_variants-else-has_words w ↦ rw (w.has_words-is, w.if-has_words.false) refl
    ] in
    let read : c.if-is_read.is_read ≡ (c.loop-index.is_read && c.compare_variant-compared.result.is_read) =
    elim c.if-is_read.branch [
      | compare_variants-then-is_read w ↦ rw (w.is_read-is, w.if-is_read.true) refl
      | compare_variants-else-is_read w ↦ rw (w.is_read-is, w.if-is_read.false) refl
    ] in
    let i = c.loop-index.invariant in
    variants-more c.args.encoding c.args.parts.now c.args.newer.now c.loop-index.index c.index-parts-index.result c.loop-index.has_words c.loop-index.is_read
    c.compare_variant-compared.result.has_words c.compare_variant-compared.result.is_read c.if-has_words.has_words c.if-is_read.is_read
    c.loop-index-test.true c.index-parts-index.is c.compare_variant-compared.ensures.has_words c.compare_variant-compared.ensures.is_read has read i.0 i.1

pub compare-returns-in-Array-clause-is_read : goal.compare-returns-in-Array-clause-is_read
compare-returns-in-Array-clause-is_read t c = rw c.in-Array.is (rw c.deref-in-Array.ensures at c.compare_array.ensures.is_read)

pub compare-returns-in-Tuple-clause-has_words : goal.compare-returns-in-Tuple-clause-has_words
compare-returns-in-Tuple-clause-has_words t c = rw (c.in-Tuple.is, all-vec c.in-Tuple.parts) (rw c.deref-in-Tuple.ensures.value at c.compare_tuple.ensures.has_words)

pub compare-returns-in-Tuple-clause-is_read : goal.compare-returns-in-Tuple-clause-is_read
compare-returns-in-Tuple-clause-is_read t c =
    rw (c.in-Tuple.is, all-vec c.in-Tuple.parts, parts-vec c.args.encoding c.in-Tuple.parts) (rw c.deref-in-Tuple.ensures.value at c.compare_tuple.ensures.is_read)

pub compare-returns-in-Choice-clause-has_words : goal.compare-returns-in-Choice-clause-has_words
compare-returns-in-Choice-clause-has_words t c = rw (c.in-Choice.is, some-vec c.in-Choice.parts) (rw c.deref-in-Choice.ensures.value at c.compare_choice.ensures.has_words)

pub compare-returns-in-Choice-clause-is_read : goal.compare-returns-in-Choice-clause-is_read
compare-returns-in-Choice-clause-is_read t c =
    rw (c.in-Choice.is, some-vec c.in-Choice.parts, parts-vec c.args.encoding c.in-Choice.parts) (rw c.deref-in-Choice.ensures.value at c.compare_choice.ensures.is_read)

pub compare_tuple-returns-else-is_empty-clause-is_read : goal.compare_tuple-returns-else-is_empty-clause-is_read
compare_tuple-returns-else-is_empty-clause-is_read t c =
    let some = eqb-false (length c.args.parts.now) 0 (sym c.is_empty.ensures ∙ c.if-is_empty.false) in
    lacking _ _ _ _ (rw c.in-Unit.is (nothing_lacks c.args.encoding c.args.parts.now some)) c.unread.ensures.is_read c.do_all_have_words.ensures

pub compare_tuple-returns-then-len-parts-clause-is_read : goal.compare_tuple-returns-then-len-parts-clause-is_read
compare_tuple-returns-then-len-parts-clause-is_read t c =
    rw (c.in-Array.is, array_has c.args.encoding c.args.parts.now c.in-Array.len c.in-Array.claim c.in-Array.element c.if-len-parts.true)
    (rw c.deref.ensures at c.compare_with_element.ensures.is_read)

pub compare_tuple-returns-else-len-parts-clause-is_read : goal.compare_tuple-returns-else-len-parts-clause-is_read
compare_tuple-returns-else-len-parts-clause-is_read t c =
    lacking _ _ _ _ (rw c.in-Array.is (array_lacks c.args.encoding c.args.parts.now c.in-Array.len c.in-Array.claim c.in-Array.element c.if-len-parts.false))
    c.unread-else-len-parts.ensures.is_read c.do_all_have_words-else-len-parts.ensures

pub compare_tuple-returns-else-len-parts-2-clause-is_read : goal.compare_tuple-returns-else-len-parts-2-clause-is_read
compare_tuple-returns-else-len-parts-2-clause-is_read t c =
    let differ : length c.in-Tuple.newer.items ≡ length c.args.parts.now → ⊥ = let k = c.in-Tuple.newer.ok in λ e. c.if-len-parts-2.false (c.len.ensures ∙ k.0 ∙ e) in
    lacking _ _ _ _ (rw c.in-Tuple.is (tuple_lacks c.args.encoding c.args.parts.now c.in-Tuple.newer differ))
    c.unread-else-len-parts-2.ensures.is_read c.do_all_have_words-else-len-parts-2.ensures

pub compare_tuple-returns-then-len-parts-2-clause-is_read : goal.compare_tuple-returns-then-len-parts-2-clause-is_read
compare_tuple-returns-then-len-parts-2-clause-is_read t c =
    rw (c.in-Tuple.is, items_hidden-the_row-Shape-0 c.in-Tuple.newer) (rw c.deref-then-len-parts-2.ensures.value at c.compare_parts.ensures.is_read)

pub compare_choice-returns-in-Choice-clause-is_read : goal.compare_choice-returns-in-Choice-clause-is_read
compare_choice-returns-in-Choice-clause-is_read t c =
    rw (c.in-Choice.is, items_hidden-the_row-Shape-0 c.in-Choice.newer) (rw c.deref.ensures.value at c.compare_variants.ensures.is_read)

pub compare_array-returns-then-len-clause-is_read : goal.compare_array-returns-then-len-clause-is_read
compare_array-returns-then-len-clause-is_read t c =
    let same : length c.in-Tuple.parts.items ≡ c.args.len = let k = c.in-Tuple.parts.ok in sym k.0 ∙ (sym c.len.ensures ∙ c.if-len.true) in
    rw (c.in-Tuple.is, tuple_reads_array c.args.encoding c.args.len c.args.element.now c.in-Tuple.parts c.if-len-eq0.false same)
    (rw c.deref-then-len.ensures.value at c.compare_element.ensures.is_read)

pub compare_array-returns-else-len-clause-is_read : goal.compare_array-returns-else-len-clause-is_read
compare_array-returns-else-len-clause-is_read t c =
    let differ : length c.in-Tuple.parts.items ≡ c.args.len → ⊥ = let k = c.in-Tuple.parts.ok in λ e. c.if-len.false (c.len.ensures ∙ k.0 ∙ e) in
    rw (c.in-Tuple.is, tuple_lacks_array c.args.encoding c.args.len c.args.element.now c.in-Tuple.parts c.if-len-eq0.false differ)
    (c.unread-else-len.ensures.is_read ∙ rw c.does_have_words-else-len.ensures refl)
