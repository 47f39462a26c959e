use Rattle.bincode.proofs.EnumFormats.{all-first}
use Rattle.bincode.proofs.enum_shapes.describe_variants.Goals as goal

pub returns : goal.returns
returns g c = λ s. all-first c.args.number c.args.shapes g.T.Enum.choices.variants g.T.Wire.words.format c.requires.each c.requires.all c.requires.some s (c.requires.words s) (g.met.T.Enum.laws.written s)
