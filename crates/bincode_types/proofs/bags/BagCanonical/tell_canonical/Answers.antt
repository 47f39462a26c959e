use Rattle.bincode_lemmas.specs.BagLaws.{bag-shortest}
use Rattle.bincode_types.proofs.bags.BagCanonical.tell_canonical.Goals as goal

pub returns : goal.returns
returns g c = λ s v w h. bag-shortest g.T.Wire.words.means s g.T.Wire.words.claim (g.T.Wire.words.format s) (λ x n. g.T.Wire.words.decodes_to n x) g.T.Wire.words.valid
    (c.tell_canonical.ensures s) v.items w.items h.1
