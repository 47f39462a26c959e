use Rattle.std.proofs.Common.{sym, ◌∙◌}
use Rattle.bincode_types.proofs.by_parts.AnyExact.tell_exact.Goals as goal

pub returns : goal.returns
returns g c = record {
  one_value = λ v w m h k p q.
      sym (g.met.T.SameParts.same_parts v w) ∙ c.tell_exact.ensures.one_value (g.T.ByParts.parts v) (g.T.ByParts.parts w) m h k p q;
  comes_back = λ v w m h p q.
      sym (g.met.T.SameParts.same_parts v w)
      ∙ c.tell_exact.ensures.comes_back (g.T.ByParts.parts v) (g.T.ByParts.parts w) m h p
      ((g.T.ByParts.promise w).keeps (g.P.Wire.words.decodes_to m (g.T.ByParts.parts w)) q);
}
