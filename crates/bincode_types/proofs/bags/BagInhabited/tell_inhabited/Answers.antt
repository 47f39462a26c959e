use Rattle.bincode_lemmas.specs.ListLaws.{list-some_word}
use Rattle.bincode_types.proofs.bags.BagInhabited.tell_inhabited.Goals as goal

pub returns : goal.returns
returns g c = λ s. list-some_word s g.T.Wire.words.claim (g.T.Wire.words.format s)
