use Rattle.std.proofs.Common.{arith}
use Rattle.bincode_lemmas.specs.IntegerLaws.{shortest-1, shortest-3, shortest-5, shortest-9}
use Rattle.bincode_io.proofs.Words.{pieces-one}
use Rattle.bincode_io.proofs.varint.encode_unsigned.varint_encode_u64.Goals as goal

pub returns-then-val-from : goal.returns-then-val-from
returns-then-val-from g c =
    let spelled = shortest-1 c.args.endian c.args.val (omega arith) in
    pieces-one g.met.W.Writer.adds_none spelled.0 spelled.1 c.write_tag.ensures.piece

pub returns-then-val-from-2 : goal.returns-then-val-from-2
returns-then-val-from-2 g c =
    let spelled = shortest-3 c.args.endian c.args.val (omega arith) (omega arith) in
    rw (spelled.0, spelled.1) (rw c.bytes_of_u16.ensures at c.write_tagged.ensures)

pub returns-then-val-from-3 : goal.returns-then-val-from-3
returns-then-val-from-3 g c =
    let spelled = shortest-5 c.args.endian c.args.val (omega arith) (omega arith) in
    rw (spelled.0, spelled.1) (rw c.bytes_of_u32.ensures at c.write_tagged-then-val-from-3.ensures)

pub returns-else-val-from-3 : goal.returns-else-val-from-3
returns-else-val-from-3 g c =
    let spelled = shortest-9 c.args.endian c.args.val (omega arith) (omega arith) in
    rw (spelled.0, spelled.1) (rw c.bytes_of_u64.ensures at c.write_tagged-else-val-from-3.ensures)
