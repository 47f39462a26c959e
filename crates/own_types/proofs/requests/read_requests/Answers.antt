use Rattle.std.specs.Prelude.{ℕ, Err}
use Rattle.std.proofs.Common.{arith}
use Rattle.bincode.specs.Slice.{FindsWords, TellsFaults, KeepsLimit}
use Rattle.own_types.proofs.RequestsRead.{read-on, answer-left}
use Rattle.own_types.proofs.requests.read_requests.Goals as goal

pub loop-alloc-preserved : goal.loop-alloc-preserved
loop-alloc-preserved g c =
    let so_far = c.loop-alloc.invariant in
    rw c.in_ok-push-in-Ok.ensures.items
    (read-on (g.T.Wire.words.format g.C.Config.setting) (g.T.Wire.words.lawful g.C.Config.setting) (g.T.Wire.words.balanced g.C.Config.setting) (g.T.Wire.words.charges_enough g.C.Config.setting)
    g.T.Wire.words.decodes_to g.C.Config.bound c.args.received.now c.loop-alloc.read.items (record { start = c.loop-alloc.end; size = c.in-Ok.size; value = c.in-Ok.value })
    c.args.most so_far.1 (omega (arith, c.len.ensures, c.loop-alloc-test.true)) c.in-Ok.ensures.word so_far.2 so_far.3 so_far.4)

pub returns-in-Err-clause-stopped : goal.returns-in-Err-clause-stopped
returns-in-Err-clause-stopped g c =
    let read = c.in-Err.ensures in
    let F = g.T.Wire.words.format g.C.Config.setting in
    let MayAllocate = g.T.Wire.words.may_allocate in
    record {
      word = tt;
      found = answer-left (λ bytes. FindsWords {A = g.row.T.Denot × ℕ} F g.C.Config.bound MayAllocate bytes (Err c.in-Err.why)) c.args.received.now c.loop-alloc.end read.found;
      fault = answer-left (λ bytes. TellsFaults {A = g.row.T.Denot × ℕ} F g.C.Config.bound MayAllocate bytes (Err c.in-Err.why)) c.args.received.now c.loop-alloc.end read.fault;
      limit = answer-left (λ bytes. KeepsLimit {A = g.row.T.Denot × ℕ} F g.C.Config.bound MayAllocate bytes (Err c.in-Err.why)) c.args.received.now c.loop-alloc.end read.limit;
    }
