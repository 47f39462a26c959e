use Rattle.bincode_lemmas.specs.TextLaws.{text-one_length}
use Rattle.bincode_types.proofs.texts.TextBytesPlain.tell_plain.Goals as goal

pub returns : goal.returns
returns g c = record {
  always_writable = λ s v h. tt;
  one_length = λ s v h. text-one_length s v.bytes h.1;
  names_none = λ e h. h;
}
