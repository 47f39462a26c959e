use Rattle.std.specs.Prelude.{FitsSigned}
use Rattle.std.specs.Int.{w8}
use Rattle.std.proofs.Common.{◌∙◌, rules}
use Rattle.std.proofs.lemmas.Int.{to_z-of_z}
use Rattle.std.proofs.lemmas.Result.{err_from_is_err_and}
use Rattle.bincode_io.proofs.Words.{map-took, map-failed}
use Rattle.bincode_io.proofs.WordAnswers.{part-fails, part-gives}
use Rattle.bincode_io.proofs.bytes.read_i8.Goals as goal

pub returns-in_err-n : goal.returns-in_err-n
returns-in_err-n g c =
    let p = err_from_is_err_and c.from_residual.result c.from_residual.ensures.1 in
    rw (p.1, p.2) (part-fails (map-failed _ _ _) c.in_err-n.ensures)

pub returns : goal.returns
returns g c =
    let fits : FitsSigned w8 c.i8_of_byte.result = search rules in
    part-gives (map-took _ _ _ _ _ _ (to_z-of_z w8 c.i8_of_byte.result fits ∙ c.i8_of_byte.ensures)) c.in_ok-n.ensures
