use Rattle.std.proofs.Common.{◌∙◌, refl, arith}
use Rattle.std.proofs.lemmas.Result.{err_from_is_err_and}
use Rattle.bincode_encoder.proofs.RunAnswers.{writes-more, writes-array, halts-at, halts_array}
use Rattle.bincode_encoder.proofs.runs.encode_each.Goals as goal

pub returns-in_err-write_whole : goal.returns-in_err-write_whole
returns-in_err-write_whole g c =
    let p = err_from_is_err_and c.from_residual.result c.from_residual.ensures.1 in
    let halted = c.in_err-write_whole.ensures in
    rw (p.1, p.2) (record {
      ok = tt;
      err = halts_array _ _ _ _ _ _ _ _ _ _ _ _ refl (halts-at _ _ g.met.E.W.Writer.adds_join
          (g.V.Value.Wire.words.writable g.E.C.Config.setting) _ _ _ _ _ c.args.items.now c.loop-item.item-index _ _ (omega arith) c.item-item.is c.loop-item.invariant.0 halted.err);
      same_loans = halted.same_loans ∙ c.loop-item.invariant.1;
    })

pub loop-item-preserved : goal.loop-item-preserved
loop-item-preserved g c = (
  writes-more _ g.met.E.W.Writer.adds_join _ _ _ _ c.args.items.now c.loop-item.item-index _ (omega arith) c.item-item.is c.loop-item.invariant.0 c.in_ok-write_whole.ensures.ok,
  c.write_whole.ensures.same_loans ∙ c.loop-item.invariant.1,
)

pub returns : goal.returns
returns g c = record {
  ok = writes-array _ _ _ _ _ c.loop-item.item-index _ _ _ refl (omega arith) c.loop-item.invariant.0;
  err = tt;
  same_loans = c.loop-item.invariant.1;
}
