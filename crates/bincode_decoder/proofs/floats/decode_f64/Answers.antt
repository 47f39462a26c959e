use Rattle.std.specs.Float.{binary64}
use Rattle.std.proofs.lemmas.Result.{err_from_is_err_and}
use Rattle.bincode_spec.specs.Integers.{unsigned_integer}
use Rattle.bincode_decoder.proofs.FloatAnswers.{float-reads, float-stops}
use Rattle.bincode_decoder.proofs.floats.decode_f64.Goals as goal

pub returns-in_err-bits : goal.returns-in_err-bits
unfolding unsigned_integer
returns-in_err-bits g c =
    let p = err_from_is_err_and c.from_residual.result c.from_residual.ensures.1 in
    let read = c.in_err-bits.ensures in
    rw (p.1, p.2) (record { reads = float-stops binary64 g.D.C.Config.setting read.reads; charges = read.charges })

pub returns : goal.returns
unfolding unsigned_integer
returns g c =
    let read = c.in_ok-bits.ensures in
    record { reads = float-reads binary64 g.D.C.Config.setting c.in_ok-bits.bits _ c.f64_from_bits_with_nan.ensures read.reads; charges = read.charges }
