use Rattle.bincode_lemmas.specs.TextLaws.{c_string-shortest}
use Rattle.bincode_types.proofs.c_strings.BytesWithoutZeroCanonical.tell_canonical.Goals as goal

pub returns : goal.returns
returns g c = λ s v w h. c_string-shortest s v.bytes w.bytes
