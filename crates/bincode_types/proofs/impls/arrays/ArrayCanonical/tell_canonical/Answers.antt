use Rattle.bincode_lemmas.specs.RunAllowedLaws.{array-shortest}
use Rattle.bincode_types.proofs.impls.arrays.ArrayCanonical.tell_canonical.Goals as goal

pub returns : goal.returns
returns g c = λ s v w h. array-shortest g.T.Wire.words.means (λ x n. g.T.Wire.words.decodes_to n x) g.T.Wire.words.claim (g.T.Wire.words.format s) g.T.Wire.words.valid
    (c.tell_canonical.ensures s) g.row.N v w h.0 h.1
