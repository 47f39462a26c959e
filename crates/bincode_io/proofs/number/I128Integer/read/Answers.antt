use Rattle.std.specs.Prelude.{FitsSigned}
use Rattle.std.specs.Int.{w128}
use Rattle.std.proofs.Common.{◌∙◌, rules}
use Rattle.std.proofs.lemmas.Int.{to_z-of_z}
use Rattle.std.proofs.lemmas.Result.{err_from_is_err_and}
use Rattle.bincode_io.proofs.Words.{map-took, map-failed, to_z-two_complement}
use Rattle.bincode_io.proofs.WordAnswers.{part-fails, part-gives}
use Rattle.bincode_io.proofs.number.I128Integer.read.Goals as goal

pub returns-in-Variable : goal.returns-in-Variable
returns-in-Variable g c = rw c.in-Variable.is c.varint_decode_i128.ensures

pub returns-in_err-read_u128-in-Fixed : goal.returns-in_err-read_u128-in-Fixed
returns-in_err-read_u128-in-Fixed g c =
    let p = err_from_is_err_and c.from_residual.result c.from_residual.ensures.1 in
    rw (c.in-Fixed.is, p.1, p.2) (part-fails (map-failed _ _ _) c.in_err-read_u128-in-Fixed.ensures)

pub returns-in_ok-read_u128-in-Fixed : goal.returns-in_ok-read_u128-in-Fixed
returns-in_ok-read_u128-in-Fixed g c =
    let fits : FitsSigned w128 c.cast_signed.result = search rules in
    rw c.in-Fixed.is (part-gives (map-took _ _ _ _ _ _ (to_z-of_z w128 c.cast_signed.result fits ∙ c.cast_signed.ensures ∙ to_z-two_complement w128 _)) c.in_ok-read_u128-in-Fixed.ensures)
