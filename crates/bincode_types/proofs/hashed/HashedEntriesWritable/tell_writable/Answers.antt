use Rattle.std.proofs.lemmas.List.Elements.{All-weaker}
use Rattle.bincode_types.proofs.Pairs.{both_keep}
use Rattle.bincode_types.proofs.hashed.HashedEntriesWritable.tell_writable.Goals as goal

pub returns : goal.returns
returns g c = λ s v h.
    All-weaker (both_keep g.K.Wire.words.valid g.V.Wire.words.valid) (both_keep (g.K.Wire.words.writable s) (g.V.Wire.words.writable s))
    (λ e a. (c.tell_writable.ensures s e.0 a.0, (c.tell_writable-2.ensures s e.1 a.1.0, tt))) v.entries h.0.1
