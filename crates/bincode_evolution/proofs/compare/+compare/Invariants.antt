use Rattle.std.proofs.Common.{◌≡◌, ◌<◌, ◌&&◌, ◌||◌, true, drop}
use Rattle.std.specs.List.{list_all}
use Rattle.bincode_evolution.specs.Rules.{has_words, is_read, each_read, reads_each, variants_read}
use Rattle.bincode_evolution.specs.Lists.{any_has_words, parts_in_list}
use Rattle.bincode_evolution.proofs.compare.+compare.Given as goal

abbrev pub invariant-compare_element-loop-new : goal.invariant-compare_element-loop-new
invariant-compare_element-loop-new l =
    (list_all (is_read l.encoding l.element) l.newer ≡ list_all (is_read l.encoding l.element) (drop l.new-index l.newer)) × (0 < l.new-index → has_words l.element ≡ true)

abbrev pub invariant-compare_with_element-loop-part : goal.invariant-compare_with_element-loop-part
invariant-compare_with_element-loop-part l =
    (list_all has_words l.parts ≡ list_all has_words (drop l.part-index l.parts))
    × (reads_each l.element (parts_in_list l.encoding l.parts) ≡ (l.is_read && reads_each l.element (parts_in_list l.encoding (drop l.part-index l.parts))))

abbrev pub invariant-compare_parts-loop-index : goal.invariant-compare_parts-loop-index
invariant-compare_parts-loop-index l =
    (list_all has_words l.parts ≡ list_all has_words (drop l.index l.parts))
    × (each_read (parts_in_list l.encoding l.parts) l.newer ≡ (l.is_read && each_read (parts_in_list l.encoding (drop l.index l.parts)) (drop l.index l.newer)))

abbrev pub invariant-compare_variants-loop-index : goal.invariant-compare_variants-loop-index
invariant-compare_variants-loop-index l =
    (any_has_words l.parts ≡ (l.has_words || any_has_words (drop l.index l.parts)))
    × (variants_read (parts_in_list l.encoding l.parts) l.newer ≡ (l.is_read && variants_read (parts_in_list l.encoding (drop l.index l.parts)) (drop l.index l.newer)))
