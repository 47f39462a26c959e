use Rattle.std.proofs.Common.{◌≡◌, refl, rules}
use Rattle.std.proofs.lemmas.Result.{err_from_is_err_and}
use Rattle.bincode_blocks.specs.Blocks.{stream_behind}
use Rattle.bincode.proofs.StreamHalted.{stream-halts, stream-cut, stop-index, cut-index}
use Rattle.bincode.proofs.streams.encode_into_buf_write.Goals as goal

pub returns-in-Err-clause-left : goal.returns-in-Err-clause-left
returns-in-Err-clause-left g c =
    let after : c.dst-1.given.0 ≡ stream_behind c.end_after.new.writer = search rules in
    let a = c.new-writer in
    let halts = stream-halts g.W.Write.contents a.result c.encode_into_writer.new.writer c.end_after.new.writer a.ensures.held _ _ a.ensures.start.0 a.ensures.start.2 c.in-Err.error c.end_after.result _ refl c.end_after.ensures.ended c.in-Err.ensures.left in
    rw after (rw a.ensures.stream at halts)

pub returns-in-Err-clause-index : goal.returns-in-Err-clause-index
returns-in-Err-clause-index g c =
    let after : c.dst-1.given.0 ≡ stream_behind c.end_after.new.writer = search rules in
    let a = c.new-writer in
    let stops = stop-index g.W.Write.contents g.E.Wire.words.own_errors a.result c.encode_into_writer.new.writer c.end_after.new.writer a.ensures.start.1 a.ensures.start.2 c.in-Err.error c.end_after.result _ refl c.end_after.ensures.ended c.in-Err.ensures.left in
    rw after (rw a.ensures.stream at stops)

pub returns-in_err-hand_on-clause-left : goal.returns-in_err-hand_on-clause-left
returns-in_err-hand_on-clause-left g c =
    let p = err_from_is_err_and c.from_residual.result c.from_residual.ensures.1 in
    let after : c.dst-in_err-hand_on-1.given.0 ≡ stream_behind c.hand_on.new.self = search rules in
    let a = c.new-writer in
    let cut = stream-cut g.W.Write.contents a.result c.encode_into_writer.new.writer c.hand_on.new.self a.ensures.held (g.E.Wire.words.writable g.C.Config.setting c.args.val) _ g.E.Wire.words.own_errors c.in_err-hand_on.field-0.0 c.in_default.ensures.word c.in_err-hand_on.ensures.left c.in_err-hand_on.ensures.error in
    rw (p.1, p.2, after) (rw a.ensures.stream at cut)

pub returns-in_err-hand_on-clause-index : goal.returns-in_err-hand_on-clause-index
returns-in_err-hand_on-clause-index g c =
    let p = err_from_is_err_and c.from_residual.result c.from_residual.ensures.1 in
    let after : c.dst-in_err-hand_on-1.given.0 ≡ stream_behind c.hand_on.new.self = search rules in
    let a = c.new-writer in
    let cut = cut-index g.W.Write.contents g.E.Wire.words.own_errors a.result c.encode_into_writer.new.writer c.hand_on.new.self a.ensures.start.1 c.in_err-hand_on.field-0.0 c.in_default.ensures.word c.in_err-hand_on.ensures.left c.in_err-hand_on.ensures.index c.in_err-hand_on.ensures.error in
    rw (p.1, p.2, after) (rw a.ensures.stream at cut)
