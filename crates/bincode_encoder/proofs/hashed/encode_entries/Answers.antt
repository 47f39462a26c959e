use Rattle.std.proofs.Common.{◌∙◌, refl}
use Rattle.std.proofs.lemmas.Result.{err_from_is_err_and}
use Rattle.bincode_encoder.proofs.IterAnswers.{written-none, written-more, written-all, written-halts}
use Rattle.bincode_encoder.proofs.hashed.encode_entries.Goals as goal

pub loop-key-init : goal.loop-key-init
loop-key-init g c = (written-none _ _ _ g.met.E.W.Writer.adds_none (c.into_iter-key-iterator.ensures.into_iter_gives ∙ c.iter-key-items.ensures.rest), refl)

pub returns-in_err-rebuild_result : goal.returns-in_err-rebuild_result
returns-in_err-rebuild_result g c =
    let p = err_from_is_err_and c.from_residual.result c.from_residual.ensures.1 in
    let halted = rw (← c.in_err-rebuild_result.ensures) at c.encode_entry.ensures in
    let i = c.loop-key.invariant in
    let s = g.E.C.Config.setting in
    rw (p.1, p.2) (record {
      ok = tt;
      err = written-halts _ _ _ _ g.met.E.W.Writer.adds_join _
          (λ e. g.K.Value.Wire.words.writable s e.0 × (g.V.Value.Wire.words.writable s e.1 × Unit {0})) _ i.0 c.in-Some.ensures.steps halted.err;
      same_loans = halted.same_loans ∙ i.1;
    })

pub loop-key-preserved : goal.loop-key-preserved
loop-key-preserved g c =
    let i = c.loop-key.invariant in
    let written = rw (← c.in_ok-rebuild_result.ensures) at c.encode_entry.ensures in
    (written-more _ _ _ g.met.E.W.Writer.adds_join i.0 c.in-Some.ensures.steps written.ok, written.same_loans ∙ i.1)

pub returns : goal.returns
returns g c =
    let i = c.loop-key.invariant in
    record { ok = written-all _ _ _ _ i.0 c.in-None.ensures.steps.0; err = tt; same_loans = i.1 }
