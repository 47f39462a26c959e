use Rattle.std.specs.Prelude.{[], ◌∷◌}
use Rattle.std.proofs.Common.{append_assoc}
use Rattle.bincode_spec.specs.Words.{variant_tags}
use Rattle.bincode_decoder.proofs.tags.VariantOfListed.push_tags.Goals as goal

pub returns : goal.returns
returns g c = rw (c.in_ok-push.ensures.items, append_assoc c.args.tags.now.items (g.row.TAG ∷ []) (variant_tags g.Others.Variants.variants)) at c.push_tags.ensures
