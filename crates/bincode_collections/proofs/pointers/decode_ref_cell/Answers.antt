use Rattle.std.proofs.lemmas.Result.{err_from_is_err_and}
use Rattle.bincode_decoder.proofs.ReadAnswers.{read-as}
use Rattle.bincode_collections.proofs.CellAnswers.{cell-answer, cell-decodes}
use Rattle.bincode_collections.proofs.pointers.decode_ref_cell.Goals as goal

pub returns-in_err-read_value : goal.returns-in_err-read_value
returns-in_err-read_value g c =
    let p = err_from_is_err_and c.from_residual.result c.from_residual.ensures.1 in
    let read = c.in_err-read_value.ensures in
    rw (p.1, p.2) (read-as (λ known. tt) (λ known. rw cell-answer (read.err known)) (λ _. tt) read)

pub returns : goal.returns
returns g c =
    let read = c.in_ok-read_value.ensures in
    read-as (λ known. cell-decodes _ _ _ _ _ _ _ (read.ok known)) (λ known. tt) read.within read
