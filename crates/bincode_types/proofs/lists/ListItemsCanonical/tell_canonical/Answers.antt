use Rattle.bincode_lemmas.specs.ListLaws.{list-shortest}
use Rattle.bincode_types.proofs.lists.ListItemsCanonical.tell_canonical.Goals as goal

pub returns : goal.returns
returns g c = λ s v w h. list-shortest g.T.Wire.words.means s g.T.Wire.words.claim (g.T.Wire.words.format s) (λ x n. g.T.Wire.words.decodes_to n x) g.T.Wire.words.valid
    (c.tell_canonical.ensures s) v.items w.items h.1
