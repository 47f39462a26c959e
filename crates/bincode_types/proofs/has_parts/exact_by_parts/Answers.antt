use Rattle.bincode_types.proofs.has_parts.exact_by_parts.Goals as goal

pub returns : goal.returns
returns g c = record {
  one_value = λ v w m h k p q. c.requires v w (c.tell_exact.ensures.one_value (g.T.HasParts.parts v) (g.T.HasParts.parts w) m h k p q);
  comes_back = λ v w m h p q. c.requires v w (c.tell_exact.ensures.comes_back (g.T.HasParts.parts v) (g.T.HasParts.parts w) m h p q);
}
