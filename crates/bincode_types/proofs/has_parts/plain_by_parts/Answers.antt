use Rattle.bincode_types.proofs.has_parts.plain_by_parts.Goals as goal

pub returns : goal.returns
returns g c = record {
  always_writable = λ s v. c.tell_plain.ensures.always_writable s (g.T.HasParts.parts v);
  one_length = λ s v. c.tell_plain.ensures.one_length s (g.T.HasParts.parts v);
  names_none = c.tell_plain.ensures.names_none;
}
