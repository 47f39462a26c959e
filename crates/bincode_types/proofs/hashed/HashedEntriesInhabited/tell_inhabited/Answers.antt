use Rattle.bincode_lemmas.specs.ListLaws.{list-some_word}
use Rattle.bincode_types.proofs.hashed.HashedEntriesInhabited.tell_inhabited.Goals as goal

pub returns : goal.returns
returns g c = λ s. list-some_word s _ _
