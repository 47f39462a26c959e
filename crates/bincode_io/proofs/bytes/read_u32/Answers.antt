use Rattle.std.proofs.lemmas.Result.{err_from_is_err_and}
use Rattle.bincode_io.proofs.Words.{digits-took, digits-failed}
use Rattle.bincode_io.proofs.WordAnswers.{part-fails, part-gives}
use Rattle.bincode_io.proofs.bytes.read_u32.Goals as goal

pub returns-in_err-bytes : goal.returns-in_err-bytes
returns-in_err-bytes g c =
    let p = err_from_is_err_and c.from_residual.result c.from_residual.ensures.1 in
    rw (p.1, p.2) (part-fails (digits-failed _ _ _) c.in_err-bytes.ensures)

pub returns : goal.returns
returns g c = rw c.u32_of_bytes.ensures (part-gives (digits-took _ _ _ _ _) c.in_ok-bytes.ensures)
