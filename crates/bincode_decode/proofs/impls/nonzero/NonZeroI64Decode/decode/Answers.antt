use Rattle.std.proofs.Common.{refl, pos, rules}
use Rattle.std.proofs.lemmas.Result.{err_from_is_err_and}
use Rattle.bincode_spec.specs.Integers.{Eight}
use Rattle.bincode_lemmas.specs.IntegerLaws.{signed-lawful}
use Rattle.bincode_decode.proofs.NotZero.{stops-too, read-tested}
use Rattle.bincode_decode.proofs.impls.nonzero.NonZeroI64Decode.decode.Goals as goal

pub returns-in_err-n : goal.returns-in_err-n
returns-in_err-n g c =
    let p = err_from_is_err_and c.from_residual.result c.from_residual.ensures.1 in
    rw (p.1, p.2) (stops-too _ _ _ (λ n. refl) _ _ c.in_err-n.ensures)

pub returns : goal.returns
returns g c =
    read-tested _ _ _ (λ n. refl) _ _ (pos 0) _ _ _ _ refl (signed-lawful _ _ _ (Eight refl)) (λ x. x.ok) (λ m h. h) (λ x m h. h) (search rules) c.new.ensures c.not_zero.ensures c.in_ok-n.ensures
