use Rattle.std.proofs.Common.{◌∙◌, sym, length}
use Rattle.std.proofs.lemmas.Bool.{eqb-true}
use Rattle.shape_difference.proofs.Shown.{shown}
use Rattle.shape_difference.proofs.difference.shows.Goals as goal
use Rattle.shape_difference.proofs.difference.shows.Goals.{then-taken-word, else-taken-word}

pub returns-in-Ok : goal.returns-in-Ok
returns-in-Ok g c =
    λ h.
    elim c.if-taken-word.branch [
      | then-taken-word w ↦
          shown g.C.Config.setting c.args.new.now c.args.old.now g.C.Config.bound c.args.word.now c.in-Ok.value 262144 c.in-Ok.taken c.in-Ok.ensures.word w.if-taken-word.true
          (w.is_unread.ensures (sym w.result-is ∙ h))
      | else-taken-word w ↦ absurd (w.if-taken-word.false (eqb-true c.in-Ok.taken (length c.args.word.now) (sym w.result-is ∙ h)))
    ]
