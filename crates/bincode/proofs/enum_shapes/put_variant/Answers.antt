use Rattle.std.proofs.lemmas.Option.{IfSome_then}
use Rattle.bincode.proofs.EnumFormats.{next-first}
use Rattle.bincode.proofs.enum_shapes.put_variant.Goals as goal

pub returns : goal.returns
returns g c =
    IfSome_then c.put_shape.result c.put_shape.ensures (λ put h. next-first c.args.number c.args.shapes.items _ g.T.Enum.choices.variants h.0 _ c.requires.before c.requires.next h.1 h.2)
