use Rattle.bincode_types.proofs.empty.NoVariantsPlain.tell_plain.Goals as goal

pub returns : goal.returns
returns g c = record {
  always_writable = λ s v h. absurd h;
  one_length = λ s v h. absurd h;
  names_none = λ e h. h;
}
