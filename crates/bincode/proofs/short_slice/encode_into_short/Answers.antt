use Rattle.std.proofs.Common.{rules, []}
use Rattle.std.proofs.lemmas.Result.{err_from_is_err_and}
use Rattle.bincode.proofs.Filled.{halted-left, halted-short, halted-why, short-fits, word-written, word-fits}
use Rattle.bincode.proofs.short_slice.encode_into_short.Goals as goal

pub returns-in_err-encode_through-clause-fault : goal.returns-in_err-encode_through-clause-fault
returns-in_err-encode_through-clause-fault g c =
    let p = err_from_is_err_and c.from_residual.result c.from_residual.ensures.1 in
    rw (p.1, p.2) (halted-why _ _ _ _ _ c.in_err-encode_through.ensures.err)

pub returns-in_err-encode_through-clause-room : goal.returns-in_err-encode_through-clause-room
returns-in_err-encode_through-clause-room g c =
    let p = err_from_is_err_and c.from_residual.result c.from_residual.ensures.1 in
    short-fits _ _ _ _ p.0 p.1 (rw p.2 (halted-short _ _ _ [] c.new-writer.result c.encode_through.new.writer _ c.new-writer.ensures.bytes c.new-writer.ensures.start c.in_err-encode_through.ensures.err))

pub returns-in_err-encode_through-clause-left : goal.returns-in_err-encode_through-clause-left
returns-in_err-encode_through-clause-left g c =
    let p = err_from_is_err_and c.from_residual.result c.from_residual.ensures.1 in
    rw (p.1, p.2) (halted-left _ _ _ _ c.new-writer.result c.encode_through.new.writer _ c.new-writer.ensures.bytes c.new-writer.ensures.start (search rules) c.in_err-encode_through.ensures.err)

pub returns-clause-word : goal.returns-clause-word
returns-clause-word g c =
    word-written _ c.new-writer.result c.encode_through.new.writer c.new-writer.ensures.start c.in_ok-encode_through.ensures.ok _ _ _ c.bytes_written.ensures c.new-writer.ensures.bytes (search rules)

pub returns-clause-room : goal.returns-clause-room
returns-clause-room g c = word-fits _ c.new-writer.result c.encode_through.new.writer c.new-writer.ensures.start c.in_ok-encode_through.ensures.ok _ _ _ _ (search rules)

pub returns-clause-fault : goal.returns-clause-fault
returns-clause-fault g c = tt

pub returns-clause-left : goal.returns-clause-left
returns-clause-left g c = tt
