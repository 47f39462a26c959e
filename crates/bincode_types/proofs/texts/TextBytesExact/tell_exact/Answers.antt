use Rattle.bincode_lemmas.specs.TextLaws.{text-alike}
use Rattle.bincode_types.proofs.texts.TextBytesExact.tell_exact.Goals as goal

pub returns : goal.returns
returns g c = record {
  one_value = λ v w m h k. text-alike v.bytes w.bytes m;
  comes_back = λ v w m h. text-alike v.bytes w.bytes m;
}
