use Rattle.std.proofs.lemmas.Result.{err_from_is_err_and}
use Rattle.bincode_collections.proofs.MadeAnswers.{read-made, read-failed}
use Rattle.bincode_decode.proofs.impls.paths.PathBufDecode.decode.Goals as goal

pub returns-in_err-text : goal.returns-in_err-text
returns-in_err-text g c =
    let p = err_from_is_err_and c.from_residual.result c.from_residual.ensures.1 in
    rw (p.1, p.2) (read-failed c.in_err-text.ensures.read)

pub returns : goal.returns
returns g c = read-made (λ m h. rw c.from.ensures h.0) c.in_ok-text.ensures.read
