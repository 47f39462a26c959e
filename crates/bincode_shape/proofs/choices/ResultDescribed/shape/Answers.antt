use Rattle.std.proofs.Common.{◌++◌, ◌∷◌, [], ◌∙◌, ap, arith, refl}
use Rattle.bincode_shape.proofs.Formats.{choice_described, next_variant_described, no_variants_described}
use Rattle.bincode_shape.proofs.choices.ResultDescribed.shape.Goals as goal

pub returns : goal.returns
returns g c =
    let first = c.in_ok-parts.ensures in
    let second = c.in_ok-parts-2.ensures in
    let from_none = first.1 ∙ ap (λ z. z ++ first.0 ∷ []) c.new.ensures.items in
    record {
      described = λ s. choice_described c.in_ok-parts-2.parts _ s
          (next_variant_described [] _ _ first.0 0 _ _ from_none first.2 (next_variant_described _ _ _ second.0 1 _ _ second.1 second.2 (no_variants_described _))) (omega arith, refl);
      shaped = λ none. absurd (none tt);
    }
