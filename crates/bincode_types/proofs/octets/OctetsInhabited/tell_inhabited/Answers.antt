use Rattle.bincode_lemmas.specs.OctetLaws.{octets-some_word}
use Rattle.bincode_types.proofs.octets.OctetsInhabited.tell_inhabited.Goals as goal

pub returns : goal.returns
returns g c = λ s. octets-some_word g.row.N
