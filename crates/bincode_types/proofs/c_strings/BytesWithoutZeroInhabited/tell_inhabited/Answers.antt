use Rattle.bincode_lemmas.specs.TextLaws.{c_string-some_word}
use Rattle.bincode_types.proofs.c_strings.BytesWithoutZeroInhabited.tell_inhabited.Goals as goal

pub returns : goal.returns
returns g c = c_string-some_word
