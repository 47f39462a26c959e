use Rattle.std.specs.Int.{w32}
use Rattle.std.proofs.Common.{arith}
use Rattle.std.proofs.lemmas.Result.{err_from_is_err_and}
use Rattle.bincode_io.proofs.Words.{narrow-fits, narrow-same}
use Rattle.bincode_io.proofs.varint.decode_signed.varint_decode_i32.Goals as goal

pub returns-in_err-z : goal.returns-in_err-z
returns-in_err-z g c =
    let p = err_from_is_err_and c.from_residual.result c.from_residual.ensures.1 in
    rw (p.1, p.2) c.in_err-z.ensures.word

pub overflow_cast-result : goal.overflow_cast-result
overflow_cast-result g c = narrow-fits w32 c.in_ok-z.z (c.in_ok-z.ensures.fits (omega arith))

pub returns : goal.returns
returns g c = rw (narrow-same w32 c.in_ok-z.z (c.in_ok-z.ensures.fits (omega arith))) c.in_ok-z.ensures.word
