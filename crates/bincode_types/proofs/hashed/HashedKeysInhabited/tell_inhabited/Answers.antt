use Rattle.bincode_lemmas.specs.ListLaws.{list-some_word}
use Rattle.bincode_types.proofs.hashed.HashedKeysInhabited.tell_inhabited.Goals as goal

pub returns : goal.returns
returns g c = λ s. list-some_word s g.K.Wire.words.claim (g.K.Wire.words.format s)
