use Rattle.bincode_lemmas.specs.ValidatedLaws.{with_test-allows, allowed-passed}
use Rattle.bincode_encoder.proofs.EncodingAnswers.{encodes-as}
use Rattle.bincode_encode.proofs.validated.encode_validated.Goals as goal

pub returns : goal.returns
returns g c =
    encodes-as (with_test-allows _ _ _ _ (g.met.T.Validate.each_passes _)) (allowed-passed _ _ _ _) (λ w. w) (λ e n. n) (rw c.of.ensures at c.encode.ensures)
