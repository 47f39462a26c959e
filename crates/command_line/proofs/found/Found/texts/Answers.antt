use Rattle.std.proofs.Common.{sym}
use Rattle.command_line.proofs.Texts.{none_more, one_more}
use Rattle.command_line.proofs.found.Found.texts.Goals as goal
use Rattle.command_line.proofs.found.Found.texts.Goals.{then-eq+in_ok-push, else-eq}

pub loop-value-preserved : goal.loop-value-preserved
loop-value-preserved c = elim c.if-eq.branch [
  | then-eq+in_ok-push w ↦
      rw (w.texts-is, w.in_ok-push.ensures.items)
      (one_more c.args.id.now c.deref-value-items.result.now c.loop-value.value-index _ c.loop-value.texts.items
      c.loop-value-test.true (sym w.if-eq.ensures) c.loop-value.invariant)
  | else-eq w ↦
      rw w.texts-is
      (none_more c.args.id.now c.deref-value-items.result.now c.loop-value.value-index _ c.loop-value.texts.items
      c.loop-value-test.true (sym w.if-eq.ensures) c.loop-value.invariant)
]
