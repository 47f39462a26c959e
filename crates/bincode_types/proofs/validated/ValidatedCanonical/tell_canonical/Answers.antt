use Rattle.bincode_lemmas.specs.ValidatedLaws.{with_test-shortest}
use Rattle.bincode_types.proofs.validated.ValidatedCanonical.tell_canonical.Goals as goal

pub returns : goal.returns
returns g c = λ s v w h. with_test-shortest g.T.Validate.passes g.T.Validate.fault (g.T.Of.Wire.words.format s) (g.T.Of.Wire.words.means (g.T.Validate.of v.0))
    (λ m. g.T.Of.Wire.words.decodes_to m (g.T.Validate.of w.0)) (c.tell_canonical.ensures s (g.T.Validate.of v.0) (g.T.Validate.of w.0) h.0)
