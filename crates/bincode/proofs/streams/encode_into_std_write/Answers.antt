use Rattle.std.proofs.Common.{◌≡◌, rules}
use Rattle.std.proofs.lemmas.Result.{err_from_is_err_and}
use Rattle.bincode_io.specs.Stream.{target_of}
use Rattle.bincode.proofs.PiecesHalted.{pieces-halt, pieces-index}
use Rattle.bincode.proofs.streams.encode_into_std_write.Goals as goal

pub returns-in_err-encode_into_writer-clause-left : goal.returns-in_err-encode_into_writer-clause-left
returns-in_err-encode_into_writer-clause-left g c =
    let p = err_from_is_err_and c.from_residual.result c.from_residual.ensures.1 in
    let after : c.dst-1.given.0 ≡ target_of c.encode_into_writer.new.writer = search rules in
    let a = c.new-writer in
    let halts = rw a.ensures.stream at (pieces-halt g.W.Write.contents _ _ a.result c.encode_into_writer.new.writer a.ensures.start _ c.in_err-encode_into_writer.ensures.left) in
    rw (p.1, p.2, after) halts

pub returns-in_err-encode_into_writer-clause-index : goal.returns-in_err-encode_into_writer-clause-index
returns-in_err-encode_into_writer-clause-index g c =
    let p = err_from_is_err_and c.from_residual.result c.from_residual.ensures.1 in
    let after : c.dst-1.given.0 ≡ target_of c.encode_into_writer.new.writer = search rules in
    let a = c.new-writer in
    let stops = rw a.ensures.stream at (pieces-index g.W.Write.contents _ _ a.result c.encode_into_writer.new.writer a.ensures.start _ c.in_err-encode_into_writer.ensures.left) in
    rw (p.1, p.2, after) stops
