use Rattle.std.proofs.Common.{◌+◌, rules, length, le_refl, subst, sym}
use Rattle.std.proofs.lemmas.Result.{err_from_is_err_and}
use Rattle.std.proofs.lemmas.Slice.{between_to_end}
use Rattle.std.specs.Io.KnownBytes.{Appends}
use Rattle.std.proofs.KnownBytes.{Appends-trans}
use lib.Seq.{take-add}
use Rattle.bincode_io.proofs.Fronts.{front-out, front-kept}
use Rattle.bincode_io.proofs.io_write.write_rest.Goals as goal

pub loop-at-preserved : goal.loop-at-preserved
loop-at-preserved g c =
    let from = c.loop-at.at in
    let bytes = c.args.rest.now in
    let n = c.in_ok-n.n in
    let wrote = rw (between_to_end bytes from (length bytes) (le_refl _)) at c.in_ok-n.ensures.ok in
    (search rules, subst (Appends _ _) (sym (take-add from n bytes)) (Appends-trans _ _ _ _ _ c.loop-at.invariant.1 wrote))

pub returns-in_err-n-clause-left : goal.returns-in_err-n-clause-left
returns-in_err-n-clause-left g c =
    let p = err_from_is_err_and c.from_residual.result c.from_residual.ensures.1 in
    rw p.1 (front-kept g.W.Write.contents _ _ _ c.loop-at.at c.args.rest.now c.loop-at.invariant.1 c.in_err-n.ensures.err)

pub returns-in-0-clause-left : goal.returns-in-0-clause-left
returns-in-0-clause-left g c =
    let from = c.loop-at.at in
    let bytes = c.args.rest.now in
    let n = c.in_ok-n.n in
    let wrote = rw (between_to_end bytes from (length bytes) (le_refl _)) at c.in_ok-n.ensures.ok in
    front-out g.W.Write.contents _ _ (from + n) bytes (subst (Appends _ _) (sym (take-add from n bytes)) (Appends-trans _ _ _ _ _ c.loop-at.invariant.1 wrote))
