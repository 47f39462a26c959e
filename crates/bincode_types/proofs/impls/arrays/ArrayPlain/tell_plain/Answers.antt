use Rattle.bincode_lemmas.specs.AllowedLaws.{same-one_length}
use Rattle.bincode_lemmas.specs.RunAllowedLaws.{allowed-array, each-one_length}
use Rattle.std.proofs.lemmas.List.Elements.{All-weaker}
use Rattle.bincode_types.proofs.impls.arrays.ArrayPlain.tell_plain.Goals as goal

pub returns : goal.returns
returns g c = record {
  always_writable = λ s v h. All-weaker g.T.Wire.words.valid (g.T.Wire.words.writable s) (c.tell_plain.ensures.always_writable s) v h.1;
  one_length = λ s v h. same-one_length _ _ (λ bytes. allowed-array g.T.Wire.words.means g.T.Wire.words.claim
      (g.T.Wire.words.format s) g.row.N v bytes h.0) (each-one_length _ g.T.Wire.words.valid v (c.tell_plain.ensures.one_length s) h.1);
  names_none = c.tell_plain.ensures.names_none;
}
