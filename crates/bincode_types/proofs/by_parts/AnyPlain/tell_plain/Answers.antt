use Rattle.bincode_types.proofs.by_parts.AnyPlain.tell_plain.Goals as goal

pub returns : goal.returns
returns g c = record {
  always_writable = λ s v. c.tell_plain.ensures.always_writable s (g.T.ByParts.parts v);
  one_length = λ s v. c.tell_plain.ensures.one_length s (g.T.ByParts.parts v);
  names_none = c.tell_plain.ensures.names_none;
}
