use Rattle.std.specs.Int.{w8}
use Rattle.std.specs.Prelude.{FitsSigned}
use Rattle.std.proofs.Common.{◌∙◌, rules}
use Rattle.std.proofs.lemmas.Int.{to_z-of_z}
use Rattle.bincode_collections.proofs.MadeAnswers.{read-made}
use Rattle.bincode_shape_codec.proofs.Images.{stops-alike}
use Rattle.bincode_shape_codec.proofs.numbers.decode_i8.Goals as goal

pub returns-in-Ok : goal.returns-in-Ok
returns-in-Ok g c =
    let fits : FitsSigned w8 c.in-Ok.number = search rules in
    let image = rw (to_z-of_z w8 c.in-Ok.number fits) at c.image_of_i8.ensures in
    read-made (λ m h. (image.0, h ∙ image.1)) c.in-Ok.ensures.means

pub returns-in-Err : goal.returns-in-Err
returns-in-Err g c = stops-alike (λ h. h) c.in-Err.ensures.means
