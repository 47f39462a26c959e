use Rattle.bincode_lemmas.specs.TupleLaws.{either, four-one_length}
use Rattle.bincode_types.proofs.rows.Cons4Plain.tell_plain.Goals as goal

pub returns : goal.returns
returns g c = record {
  always_writable = λ s v h. (
    c.tell_plain.ensures.always_writable s v.0 h.0,
    (
      c.tell_plain-2.ensures.always_writable s v.1 h.1.0,
      (
        c.tell_plain-3.ensures.always_writable s v.2 h.1.1.0,
        (c.tell_plain-4.ensures.always_writable s v.3 h.1.1.1.0, c.tell_plain-5.ensures.always_writable s v.4 h.1.1.1.1),
      ),
    ),
  );
  one_length = λ s v h.
      four-one_length (c.tell_plain.ensures.one_length s v.0 h.0) (c.tell_plain-2.ensures.one_length s v.1 h.1.0) (c.tell_plain-3.ensures.one_length s v.2 h.1.1.0)
      (c.tell_plain-4.ensures.one_length s v.3 h.1.1.1.0) (c.tell_plain-5.ensures.one_length s v.4 h.1.1.1.1);
  names_none = λ e. either (c.tell_plain.ensures.names_none e) (either (c.tell_plain-2.ensures.names_none e)
      (either (c.tell_plain-3.ensures.names_none e) (either (c.tell_plain-4.ensures.names_none e) (c.tell_plain-5.ensures.names_none e))));
}
