use Rattle.std.proofs.Common.{◌≡◌, ◌+◌, ◌<◌, ◌-◌, ◌^◌, max, min, drop}
use Rattle.shape_grammar.specs.Claims.{claim_sum, greatest_claim, as_u128}
use Rattle.shape_grammar.proofs.claims.+claims.Given as goal

abbrev pub invariant-claim_of_parts-loop-part : goal.invariant-claim_of_parts-loop-part
invariant-claim_of_parts-loop-part l =
    (as_u128 (claim_sum l.parts) ≡ min (l.sum + claim_sum (drop l.part-index l.parts)) (2 ^ 64 - 1)) × (l.sum < 2 ^ 64)

abbrev pub invariant-greatest_of-loop-variant : goal.invariant-greatest_of-loop-variant
invariant-greatest_of-loop-variant l =
    (as_u128 (greatest_claim l.variants) ≡ min (max l.greatest (greatest_claim (drop l.variant-index l.variants))) (2 ^ 64 - 1)) × (l.greatest < 2 ^ 64)
