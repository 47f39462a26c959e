use Rattle.std.proofs.lemmas.Option.{IfSome_then}
use Rattle.bincode_shape.proofs.Formats.{next_variant_described}
use Rattle.bincode_shape.proofs.choices.VariantOfDescribedVariants.put_shapes.Goals as goal

pub returns : goal.returns
returns g c =
    let a = c.in_ok-shapes.ensures in
    IfSome_then c.put_shapes.result c.put_shapes.ensures (λ put h. next_variant_described _ _ _ a.0 _ _ _ a.1 a.2 h)
