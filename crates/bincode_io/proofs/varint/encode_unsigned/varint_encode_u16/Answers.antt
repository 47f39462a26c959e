use Rattle.std.proofs.Common.{arith}
use Rattle.bincode_lemmas.specs.IntegerLaws.{shortest-1, shortest-3}
use Rattle.bincode_io.proofs.Words.{pieces-one}
use Rattle.bincode_io.proofs.varint.encode_unsigned.varint_encode_u16.Goals as goal

pub returns-then-val-from : goal.returns-then-val-from
returns-then-val-from g c =
    let spelled = shortest-1 c.args.endian c.args.val (omega arith) in
    pieces-one g.met.W.Writer.adds_none spelled.0 spelled.1 c.write_tag.ensures.piece

pub returns-else-val-from : goal.returns-else-val-from
returns-else-val-from g c =
    let spelled = shortest-3 c.args.endian c.args.val (omega arith) (omega arith) in
    rw (spelled.0, spelled.1) (rw c.bytes_of_u16.ensures at c.write_tagged.ensures)
