use Rattle.bincode_lemmas.specs.DurationLaws.{duration-some_word}
use Rattle.bincode_types.proofs.impls.time.DurationInhabited.tell_inhabited.Goals as goal

pub returns : goal.returns
returns c = λ s. duration-some_word s
