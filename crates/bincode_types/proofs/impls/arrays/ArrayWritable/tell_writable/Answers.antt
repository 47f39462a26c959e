use Rattle.std.proofs.lemmas.List.Elements.{All-weaker}
use Rattle.bincode_types.proofs.impls.arrays.ArrayWritable.tell_writable.Goals as goal

pub returns : goal.returns
returns g c = λ s v h. All-weaker g.T.Wire.words.valid (g.T.Wire.words.writable s) (c.tell_writable.ensures s) v h.1
