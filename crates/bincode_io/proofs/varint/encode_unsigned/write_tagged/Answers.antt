use Rattle.std.proofs.lemmas.Result.{err_from_is_err_and}
use Rattle.bincode_io.proofs.Words.{pieces-first, pieces-two}
use Rattle.bincode_io.proofs.varint.encode_unsigned.write_tagged.Goals as goal

pub returns-in_err-write_tag : goal.returns-in_err-write_tag
returns-in_err-write_tag g c =
    let p = err_from_is_err_and c.from_residual.result c.from_residual.ensures.1 in
    rw (p.1, p.2) (pieces-first g.met.W.Writer.adds_none c.in_err-write_tag.ensures.piece)

pub returns : goal.returns
returns g c = pieces-two g.met.W.Writer.adds_join c.in_ok-write_tag.ensures.piece.ok c.in_ok-write_tag.ensures.piece.same_loans c.write_payload.ensures
