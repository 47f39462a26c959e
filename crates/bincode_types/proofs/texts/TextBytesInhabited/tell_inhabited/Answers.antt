use Rattle.bincode_lemmas.specs.TextLaws.{text-some_word}
use Rattle.bincode_types.proofs.texts.TextBytesInhabited.tell_inhabited.Goals as goal

pub returns : goal.returns
returns g c = text-some_word
