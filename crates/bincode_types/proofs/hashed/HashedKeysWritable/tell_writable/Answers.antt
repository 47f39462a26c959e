use Rattle.std.proofs.lemmas.List.Elements.{All-weaker}
use Rattle.bincode_types.proofs.hashed.HashedKeysWritable.tell_writable.Goals as goal

pub returns : goal.returns
returns g c = λ s v h. All-weaker g.K.Wire.words.valid (g.K.Wire.words.writable s) (c.tell_writable.ensures s) v.keys h.0.1
