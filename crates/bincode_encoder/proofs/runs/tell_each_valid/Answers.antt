use Rattle.std.proofs.Common.{arith}
use Rattle.std.proofs.lemmas.List.Elements.{All-more}
use Rattle.bincode_encoder.proofs.runs.tell_each_valid.Goals as goal

pub loop-value-preserved : goal.loop-value-preserved
loop-value-preserved g c =
    let more = All-more g.V.Value.Wire.words.valid c.args.items.now c.loop-value.value-index c.value-item.result in
    more (omega arith) c.loop-value.invariant (rw (← c.value-item.is) c.tell_valid.ensures)
