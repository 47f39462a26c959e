use Rattle.bincode_lemmas.specs.OctetLaws.{octets-shortest}
use Rattle.bincode_types.proofs.octets.OctetsCanonical.tell_canonical.Goals as goal

pub returns : goal.returns
returns g c = λ s v w h. octets-shortest g.row.N v.octets w.octets
