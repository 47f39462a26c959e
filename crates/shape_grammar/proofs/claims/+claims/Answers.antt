use Rattle.std.proofs.Common.{◌≡◌, drop, [], arith}
use Rattle.std.proofs.lemmas.List.{drop_all}
use Rattle.shape_grammar.specs.Claims.{sum_of-vec, greatest_of-vec}
use Rattle.shape_grammar.proofs.claims.+claims.Goals as goal

pub claim_of-returns-in-Tuple : goal.claim_of-returns-in-Tuple
claim_of-returns-in-Tuple t c =
    let h = rw c.deref-in-Tuple.ensures.value at c.claim_of_parts.ensures in
    rw (c.in-Tuple.is, sum_of-vec c.in-Tuple.parts) (omega (arith, h))

pub claim_of-returns-in-Choice : goal.claim_of-returns-in-Choice
claim_of-returns-in-Choice t c =
    let h = rw c.deref-in-Choice.ensures.value at c.greatest_of.ensures in
    let k = c.saturating_add-in-Choice.ensures in
    rw (c.in-Choice.is, greatest_of-vec c.in-Choice.variants) (omega (arith, h, k))

pub claim_of_parts-returns : goal.claim_of_parts-returns
claim_of_parts-returns t c =
    let e : drop c.loop-part.part-index c.args.parts.now ≡ [] = drop_all c.loop-part.part-index c.args.parts.now (omega arith) in
    let h = rw e at c.loop-part.invariant.0 in
    let k = c.loop-part.invariant.1 in
    omega (arith, h, k)

pub greatest_of-returns : goal.greatest_of-returns
greatest_of-returns t c =
    let e : drop c.loop-variant.variant-index c.args.variants.now ≡ [] = drop_all c.loop-variant.variant-index c.args.variants.now (omega arith) in
    let h = rw e at c.loop-variant.invariant.0 in
    let k = c.loop-variant.invariant.1 in
    omega (arith, h, k)
