use Rattle.std.specs.Prelude.{◌<◌, unsigned_abs, FitsSigned}
use Rattle.std.specs.Int.{w8}
use Rattle.std.proofs.Common.{rules}
use Rattle.std.proofs.lemmas.Int.{to_z-of_z}
use Rattle.bincode_encoder.proofs.EncodingAnswers.{not_zero-encodes}
use Rattle.bincode_encode.proofs.impls.nonzero.NonZeroI8EncodeParts.encode_parts.Goals as goal

pub returns : goal.returns
returns g c =
    let nonzero : 0 < unsigned_abs c.get.result = search rules in
    let fits : FitsSigned w8 c.get.result = search rules in
    let written = rw (to_z-of_z w8 c.get.result fits) at c.encode.ensures in
    rw (← c.get.ensures.value) (not_zero-encodes (λ k. k) (λ a b e. e) unsigned_abs _ _ nonzero written)
