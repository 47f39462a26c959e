use Rattle.std.proofs.lemmas.Result.{err_from_is_err_and}
use Rattle.bincode_decoder.proofs.ReadAnswers.{read-as, made-of}
use Rattle.bincode_decode.proofs.impls.paths.PathBorrowDecodeRefSliceU8.borrow_decode.Goals as goal

pub returns-in_err-text : goal.returns-in_err-text
returns-in_err-text g c =
    let p = err_from_is_err_and c.from_residual.result c.from_residual.ensures.1 in
    let read = c.in_err-text.ensures in
    rw (p.1, p.2) (read-as (λ known. tt) read.err (λ _. tt) read)

pub returns : goal.returns
returns g c =
    let read = c.in_ok-text.ensures in
    read-as (λ known. made-of (λ m h. rw c.new.ensures h) (read.ok known)) (λ known. tt) read.within read
