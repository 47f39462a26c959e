use Rattle.bincode_lemmas.specs.AllowedLaws.{more-allowed}
use Rattle.bincode_types.proofs.scalars.SingleCanonical.tell_canonical.Goals as goal

pub returns : goal.returns
returns g c = λ s v w h written bytes m steps a b u k.
    (g.T.Scalar.form_laws.spelled s v.value h).none_shorter written bytes m steps (more-allowed (λ n p. p.0) written a) b u
    (g.T.Scalar.form_laws.one_meaning v.value w.value a.meaning m a.is_meant.0 a.is_meant.1 k)
