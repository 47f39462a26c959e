use Rattle.bincode.proofs.Known.{kept-known}
use Rattle.bincode.proofs.next.decode_next_from_std_read.Goals as goal

pub returns-in-Ok-clause-limit : goal.returns-in-Ok-clause-limit
returns-in-Ok-clause-limit g c = λ tells _. let now = kept-known _ _ c.has_ended.ensures.kept tells in rw now.1 (c.in-Ok.ensures.limit now.0)

pub returns-in-Err-decode_from_buf_read-clause-found : goal.returns-in-Err-decode_from_buf_read-clause-found
returns-in-Err-decode_from_buf_read-clause-found g c = λ tells _. let now = kept-known _ _ c.has_ended.ensures.kept tells in rw now.1 (c.in-Err-decode_from_buf_read.ensures.found now.0)

pub returns-in-Err-decode_from_buf_read-clause-fault : goal.returns-in-Err-decode_from_buf_read-clause-fault
returns-in-Err-decode_from_buf_read-clause-fault g c = λ tells _. let now = kept-known _ _ c.has_ended.ensures.kept tells in rw now.1 (c.in-Err-decode_from_buf_read.ensures.fault now.0)

pub returns-in-Err-decode_from_buf_read-clause-limit : goal.returns-in-Err-decode_from_buf_read-clause-limit
returns-in-Err-decode_from_buf_read-clause-limit g c = λ tells _. let now = kept-known _ _ c.has_ended.ensures.kept tells in rw now.1 (c.in-Err-decode_from_buf_read.ensures.limit now.0)

pub returns-in-Err-decode_from_buf_read-clause-left : goal.returns-in-Err-decode_from_buf_read-clause-left
returns-in-Err-decode_from_buf_read-clause-left g c = λ tells. let now = kept-known _ _ c.has_ended.ensures.kept tells in rw now.1 (c.in-Err-decode_from_buf_read.ensures.left now.0)
