use Rattle.bincode_lemmas.specs.OctetLaws.{octets-one_length}
use Rattle.bincode_types.proofs.octets.OctetsPlain.tell_plain.Goals as goal

pub returns : goal.returns
returns g c = record {
  always_writable = λ s v h. tt;
  one_length = λ s v h. octets-one_length g.row.N v.octets;
  names_none = λ e h. h;
}
