use Rattle.std.specs.Prelude.{pos}
use Rattle.bincode_lemmas.specs.AllowedLaws.{natural-one}
use Rattle.bincode_encoder.proofs.EncodingAnswers.{not_zero-encodes}
use Rattle.bincode_encode.proofs.impls.nonzero.NonZeroU8EncodeParts.encode_parts.Goals as goal

pub returns : goal.returns
returns g c = rw (← c.get.ensures.value) (not_zero-encodes pos natural-one (λ k. k) _ _ c.get.ensures.nonzero c.encode.ensures)
