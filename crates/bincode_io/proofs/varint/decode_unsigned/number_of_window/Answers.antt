use Rattle.std.proofs.Common.{ap, ◌-◌, length}
use Rattle.bincode_spec.specs.Integers.{varint}
use Rattle.bincode_spec.specs.Layers.Spelling.{tag_types}
use Rattle.bincode_io.proofs.Windows.{front-is, front-fails, left-shorter, read_by, read_by-lawful, varint-reads}
use Rattle.bincode_io.proofs.varint.decode_unsigned.number_of_window.Goals as goal

pub overflow_sub-result : goal.overflow_sub-result
overflow_sub-result c =
    left-shorter (varint (tag_types c.args.name) c.args.name c.args.endian c.args.width) (read_by (tag_types c.args.name) c.args.name c.args.endian c.args.width) (varint-reads _ _ _ _) (read_by-lawful _ _ _ _) _ _ _ _ (rw c.new-front.ensures at (c.in-Ok.ensures.word.ok tt)) c.bytes_left.ensures

pub returns-in-Ok-clause-word : goal.returns-in-Ok-clause-word
returns-in-Ok-clause-word c =
    front-is _ (read_by (tag_types c.args.name) c.args.name c.args.endian c.args.width) (varint-reads _ _ _ _) (read_by-lawful _ _ _ _) _ _ _ _ (rw c.new-front.ensures at (c.in-Ok.ensures.word.ok tt)) (ap (λ n. length c.args.window.now - n) c.bytes_left.ensures)

pub returns-in-Err-InvalidIntegerType-clause-tag : goal.returns-in-Err-InvalidIntegerType-clause-tag
returns-in-Err-InvalidIntegerType-clause-tag c =
    front-fails _ (read_by (tag_types c.args.name) c.args.name c.args.endian c.args.width) (varint-reads _ _ _ _) (read_by-lawful _ _ _ _) _ _ _ _ (rw (c.new-front.ensures, c.in-Err-InvalidIntegerType.field-0-is) at (c.in-Err-InvalidIntegerType.ensures.word.err tt))
