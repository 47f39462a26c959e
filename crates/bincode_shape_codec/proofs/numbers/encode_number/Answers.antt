use Rattle.std.proofs.Common.{sym, ◌∙◌}
use Rattle.bincode_lemmas.specs.AllowedLaws.{more-allowed}
use Rattle.bincode_encoder.proofs.EncodingAnswers.{encodes-as}
use Rattle.bincode_shape_codec.proofs.numbers.encode_number.Goals as goal

pub returns : goal.returns
returns g c =
    encodes-as (more-allowed (λ m h. h ∙ sym c.of_value.ensures.meant)) (more-allowed (λ m h. h ∙ c.of_value.ensures.meant)) (λ u. u) (λ e k. k) c.encode_integer.ensures
