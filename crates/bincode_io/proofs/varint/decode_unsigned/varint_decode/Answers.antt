use Rattle.std.proofs.lemmas.Result.{err_from_is_err_and}
use Rattle.bincode_io.proofs.Windows.{window-fails, window-reads}
use Rattle.bincode_io.proofs.varint.decode_unsigned.varint_decode.Goals as goal

pub returns-in_err-n-clause-word : goal.returns-in_err-n-clause-word
returns-in_err-n-clause-word g c =
    let p = err_from_is_err_and c.from_residual.result c.from_residual.ensures.1 in
    rw (p.1, p.2) (window-fails _ c.in_err-n.ensures.tag (λ known. c.in-Some.ensures.next.1 known) c.peek_read.follows.holds-at-none.0)

pub returns-in-Some-2-clause-word : goal.returns-in-Some-2-clause-word
returns-in-Some-2-clause-word g c = window-reads _ (rw c.in-Some-2.is at c.in_ok-n.ensures.word) (λ known. c.in-Some.ensures.next.1 known) c.peek_read.follows.holds-at-none.0 c.consume.ensures
