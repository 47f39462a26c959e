use Rattle.bincode_lemmas.specs.ListLaws.{list-one_length}
use Rattle.std.proofs.lemmas.List.Elements.{All-weaker}
use Rattle.bincode_types.proofs.ordered.KeysPlain.tell_plain.Goals as goal

pub returns : goal.returns
returns g c = record {
  always_writable = λ s v h. All-weaker g.K.Wire.words.valid (g.K.Wire.words.writable s) (c.tell_plain.ensures.always_writable s) v.keys h.0.1;
  one_length = λ s v h. list-one_length g.K.Wire.words.means s g.K.Wire.words.claim (g.K.Wire.words.format s) g.K.Wire.words.valid (c.tell_plain.ensures.one_length s)
      v.keys h.0.1;
  names_none = c.tell_plain.ensures.names_none;
}
