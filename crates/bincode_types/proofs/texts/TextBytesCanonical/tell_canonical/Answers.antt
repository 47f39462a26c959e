use Rattle.bincode_lemmas.specs.TextLaws.{text-shortest}
use Rattle.bincode_types.proofs.texts.TextBytesCanonical.tell_canonical.Goals as goal

pub returns : goal.returns
returns g c = λ s v w h. text-shortest s v.bytes w.bytes
