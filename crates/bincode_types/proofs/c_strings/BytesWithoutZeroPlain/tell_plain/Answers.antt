use Rattle.bincode_lemmas.specs.TextLaws.{c_string-one_length}
use Rattle.bincode_types.proofs.c_strings.BytesWithoutZeroPlain.tell_plain.Goals as goal

pub returns : goal.returns
returns g c = record {
  always_writable = λ s v h. tt;
  one_length = λ s v h. c_string-one_length s v.bytes h.2;
  names_none = λ e h. h;
}
