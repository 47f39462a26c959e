use Rattle.bincode_lemmas.specs.ListLaws.{list-one_length}
use Rattle.std.proofs.lemmas.List.Elements.{All-weaker}
use Rattle.bincode_types.proofs.lists.ListItemsPlain.tell_plain.Goals as goal

pub returns : goal.returns
returns g c = record {
  always_writable = λ s v h. All-weaker g.T.Wire.words.valid (g.T.Wire.words.writable s) (c.tell_plain.ensures.always_writable s) v.items h.1;
  one_length = λ s v h. list-one_length g.T.Wire.words.means s g.T.Wire.words.claim (g.T.Wire.words.format s) g.T.Wire.words.valid (c.tell_plain.ensures.one_length s)
      v.items h.1;
  names_none = c.tell_plain.ensures.names_none;
}
