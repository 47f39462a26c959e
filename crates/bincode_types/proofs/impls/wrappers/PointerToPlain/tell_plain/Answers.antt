use Rattle.bincode_types.proofs.impls.wrappers.PointerToPlain.tell_plain.Goals as goal

pub returns : goal.returns
returns g c = record {
  always_writable = λ s v. c.tell_plain.ensures.always_writable s v.to;
  one_length = λ s v. c.tell_plain.ensures.one_length s v.to;
  names_none = c.tell_plain.ensures.names_none;
}
