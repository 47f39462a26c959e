use Rattle.std.specs.Prelude.{FitsSigned}
use Rattle.std.specs.Int.{w128}
use Rattle.std.proofs.Common.{◌∙◌, rules}
use Rattle.std.proofs.lemmas.Int.{to_z-of_z}
use Rattle.std.proofs.lemmas.Result.{err_from_is_err_and}
use Rattle.bincode_io.proofs.Words.{map-took, map-failed}
use Rattle.bincode_io.proofs.WordAnswers.{part-fails, part-gives}
use Rattle.bincode_io.proofs.varint.decode_signed.varint_decode_signed.Goals as goal

pub returns-in_err-n-clause-word : goal.returns-in_err-n-clause-word
returns-in_err-n-clause-word g c =
    let p = err_from_is_err_and c.from_residual.result c.from_residual.ensures.1 in
    rw (p.1, p.2) (part-fails (map-failed _ _ _) c.in_err-n.ensures.word)

pub returns-clause-word : goal.returns-clause-word
returns-clause-word g c =
    let fits : FitsSigned w128 c.unzigzag.result = search rules in
    part-gives (map-took _ _ _ _ _ _ (to_z-of_z w128 c.unzigzag.result fits ∙ c.unzigzag.ensures.integer)) c.in_ok-n.ensures.word
