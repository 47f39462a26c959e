use Rattle.bincode_lemmas.specs.TupleLaws.{then-one_length, either}
use Rattle.bincode_types.proofs.rows.ConsPlain.tell_plain.Goals as goal

pub returns : goal.returns
returns g c = record {
  always_writable = λ s v h. (c.tell_plain.ensures.always_writable s v.0 h.0, c.tell_plain-2.ensures.always_writable s v.1 h.1);
  one_length = λ s v h. then-one_length (c.tell_plain.ensures.one_length s v.0 h.0) (c.tell_plain-2.ensures.one_length s v.1 h.1);
  names_none = λ e. either (c.tell_plain.ensures.names_none e) (c.tell_plain-2.ensures.names_none e);
}
