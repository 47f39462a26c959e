use Rattle.std.proofs.Common.{length, le_refl}
use Rattle.std.proofs.lemmas.Result.{on_err_weaker}
use Rattle.std.proofs.lemmas.Slice.{between_to_end}
use Rattle.bincode_io.proofs.Fronts.{front-then}
use Rattle.bincode_io.proofs.io_write.write_out.Goals as goal

pub returns-in_default-2-clause-left : goal.returns-in_default-2-clause-left
returns-in_default-2-clause-left g c =
    let bytes = c.args.bytes.now in
    let n = c.in_ok-n.n in
    let rest = rw (between_to_end bytes n (length bytes) (le_refl _)) at c.write_rest.ensures.left in
    on_err_weaker c.write_rest.result (λ f. front-then g.W.Write.contents _ _ _ n bytes c.in_ok-n.ensures.ok f) rest
