use Rattle.bincode_lemmas.specs.ValidatedLaws.{with_test-one_length}
use Rattle.bincode_types.proofs.validated.ValidatedPlain.tell_plain.Goals as goal

pub returns : goal.returns
returns g c = record {
  always_writable = λ s v h. c.tell_plain.ensures.always_writable s (g.T.Validate.of v.0) h.0;
  one_length = λ s v h. with_test-one_length g.T.Validate.passes g.T.Validate.fault (g.T.Of.Wire.words.format s) (g.T.Of.Wire.words.means (g.T.Validate.of v.0))
      (c.tell_plain.ensures.one_length s (g.T.Validate.of v.0) h.0);
  names_none = c.tell_plain.ensures.names_none;
}
