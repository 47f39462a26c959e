use Rattle.std.specs.Int.{w64}
use Rattle.std.proofs.Common.{arith}
use Rattle.std.proofs.lemmas.Result.{err_from_is_err_and}
use Rattle.bincode_io.proofs.Words.{fits-bits}
use Rattle.bincode_io.proofs.varint.decode_unsigned.varint_decode_u64.Goals as goal

pub returns-in_err-n : goal.returns-in_err-n
returns-in_err-n g c =
    let p = err_from_is_err_and c.from_residual.result c.from_residual.ensures.1 in
    rw (p.1, p.2) c.in_err-n.ensures.word

pub overflow_cast-result : goal.overflow_cast-result
overflow_cast-result g c = fits-bits w64 c.in_ok-n.n (c.in_ok-n.ensures.fits (omega arith))

pub returns : goal.returns
returns g c = c.in_ok-n.ensures.word
