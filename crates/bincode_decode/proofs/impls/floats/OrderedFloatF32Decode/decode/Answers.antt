use Rattle.std.proofs.lemmas.Result.{err_from_is_err_and}
use Rattle.bincode_decoder.proofs.ReadAnswers.{read-as, made-of}
use Rattle.bincode_decode.proofs.impls.floats.OrderedFloatF32Decode.decode.Goals as goal

pub returns-in_err-value : goal.returns-in_err-value
returns-in_err-value g c =
    let p = err_from_is_err_and c.from_residual.result c.from_residual.ensures.1 in
    let read = c.in_err-value.ensures.reads in
    rw (p.1, p.2) (read-as (λ known. tt) read.err (λ _. tt) read)

pub returns : goal.returns
returns g c =
    let read = c.in_ok-value.ensures.reads in
    read-as (λ known. made-of (λ m h. h) (read.ok known)) (λ known. tt) read.within read
