use Rattle.bincode_lemmas.specs.CellLaws.{cell-some_word}
use Rattle.bincode_types.proofs.impls.cells.CellInhabited.tell_inhabited.Goals as goal

pub returns : goal.returns
returns g c = λ s. cell-some_word (g.T.Wire.words.format s) (c.tell_inhabited.ensures s)
