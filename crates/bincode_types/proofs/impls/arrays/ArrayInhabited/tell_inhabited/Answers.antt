use Rattle.bincode_lemmas.specs.RunAllowedLaws.{array-some_word}
use Rattle.bincode_types.proofs.impls.arrays.ArrayInhabited.tell_inhabited.Goals as goal

pub returns : goal.returns
returns g c = λ s. array-some_word g.T.Wire.words.claim (g.T.Wire.words.format s) (c.tell_inhabited.ensures s) g.row.N
