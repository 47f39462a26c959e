use Rattle.std.proofs.KnownBytes.{Keeps-trans}
use Rattle.shape_text.proofs.Sought.{shown-left}
use Rattle.shape_text.proofs.next.next_word.Goals as goal

pub returns-in-Ok-Some-clause-end : goal.returns-in-Ok-Some-clause-end
returns-in-Ok-Some-clause-end g c = shown-left _ _ _ (Keeps-trans _ _ _ c.in-Ok-true.ensures.kept c.loop.invariant.kept) c.loop.invariant.some
