use Rattle.bincode_lemmas.specs.AllowedLaws.{fewer-none_shorter}
use Rattle.bincode_types.proofs.by_parts.AnyCanonical.tell_canonical.Goals as goal

pub returns : goal.returns
returns g c = λ s v w h.
    fewer-none_shorter (λ m p. (p.0, (g.T.ByParts.promise w).keeps (g.T.Parts.Wire.words.decodes_to m (g.T.ByParts.parts w)) p.1))
    (λ m p. (g.T.ByParts.promise w).keeps (g.T.Parts.Wire.words.decodes_to m (g.T.ByParts.parts w)) p)
    (c.tell_canonical.ensures s (g.T.ByParts.parts v) (g.T.ByParts.parts w) h)
