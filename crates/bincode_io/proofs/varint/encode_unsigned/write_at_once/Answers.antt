use Rattle.std.proofs.Common.{sym, ◌∙◌, ap, arith}
use Rattle.std.proofs.lemmas.Result.{err_from_is_err_and}
use Rattle.bincode_spec.specs.Integers.{first_of}
use Rattle.bincode_lemmas.specs.IntegerLaws.{shortest-3, shortest-5, shortest-9}
use Rattle.bincode_io.proofs.Words.{pieces-first, pieces-two, pieces-begin}
use Rattle.bincode_io.proofs.varint.encode_unsigned.write_at_once.Goals as goal

pub returns-in_err-write_tag : goal.returns-in_err-write_tag
returns-in_err-write_tag g c =
    let p = err_from_is_err_and c.from_residual.result c.from_residual.ensures.1 in
    let begins = pieces-begin c.args.endian c.args.val in
    rw (begins.1, c.front_of-first.ensures.first c.args.endian, p.1, p.2) (pieces-first g.met.W.Writer.adds_none c.in_err-write_tag.ensures.piece)

pub returns-then-val-from-2 : goal.returns-then-val-from-2
returns-then-val-from-2 g c =
    let spelled = shortest-3 c.args.endian c.args.val (omega arith) (omega arith) in
    let tag = sym (ap first_of spelled.0) ∙ c.front_of-first.ensures.first c.args.endian in
    rw (spelled.0, spelled.1, tag, ← c.bytes_of_u16.ensures)
    (pieces-two g.met.W.Writer.adds_join c.in_ok-write_tag.ensures.piece.ok c.in_ok-write_tag.ensures.piece.same_loans c.write_payload.ensures)

pub returns-then-val-from-3 : goal.returns-then-val-from-3
returns-then-val-from-3 g c =
    let spelled = shortest-5 c.args.endian c.args.val (omega arith) (omega arith) in
    let tag = sym (ap first_of spelled.0) ∙ c.front_of-first.ensures.first c.args.endian in
    rw (spelled.0, spelled.1, tag, ← c.bytes_of_u32.ensures)
    (pieces-two g.met.W.Writer.adds_join c.in_ok-write_tag.ensures.piece.ok c.in_ok-write_tag.ensures.piece.same_loans c.write_payload-then-val-from-3.ensures)

pub returns-else-val-from-3 : goal.returns-else-val-from-3
returns-else-val-from-3 g c =
    let spelled = shortest-9 c.args.endian c.args.val (omega arith) (omega arith) in
    let tag = sym (ap first_of spelled.0) ∙ c.front_of-first.ensures.first c.args.endian in
    rw (spelled.0, spelled.1, tag, ← c.bytes_of_u64.ensures)
    (pieces-two g.met.W.Writer.adds_join c.in_ok-write_tag.ensures.piece.ok c.in_ok-write_tag.ensures.piece.same_loans c.write_payload-else-val-from-3.ensures)
