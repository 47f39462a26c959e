use Rattle.bincode_encoder.proofs.encoder.write_from.Goals as goal

pub returns : goal.returns
returns g c =
    let e = c.args.encoder.now in
    let new = c.write.new.self in
    let put = g.met.E.Encoder.put_get e new in
    let write = rw c.writer.ensures.value at c.write.ensures.piece in
    rw c.rebuild_result.ensures (record {
      ok = rw put write.ok;
      err = rw put write.err;
      failures_monotone = rw put write.failures_monotone;
      same_loans = g.met.E.Encoder.put_loans e new write.same_loans;
    })
