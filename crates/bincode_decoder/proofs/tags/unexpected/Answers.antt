use Rattle.std.proofs.Common.{sym, ◌∙◌, inl, inr, ap, ◌++◌}
use Rattle.bincode_spec.specs.Words.{variant_tags}
use Rattle.bincode_decoder.proofs.tags.unexpected.Goals as goal

pub returns-then-are_in_order : goal.returns-then-are_in_order
returns-then-are_in_order g c =
    inl (c.type_name-type_name.result, rw (sym c.are_in_order.ensures ∙ c.if-are_in_order.true) (rw (sym c.last_tag.ensures) c.unexpected_variant.ensures))

pub returns-in-Ok : goal.returns-in-Ok
returns-in-Ok g c =
    let unordered = sym c.are_in_order.ensures ∙ c.if-are_in_order.false in
    let lists = c.deref.ensures.value ∙ c.in-Ok.ensures ∙ ap (λ tags. tags ++ variant_tags g.All.Variants.variants) c.new-tags.ensures.items in
    elim c.unexpected_variant-in-Ok.ensures [
      | inl refused ↦ inr (unordered, refused)
      | inr made ↦ inl (c.type_name-type_name.result, rw unordered (made.0, made.1, made.2 ∙ lists))
    ]
