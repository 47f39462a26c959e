use Rattle.std.proofs.Common.{refl}
use Rattle.std.proofs.lemmas.Result.{err_from_is_err_and}
use Rattle.bincode_spec.specs.Integers.{Eight}
use Rattle.bincode_lemmas.specs.IntegerLaws.{unsigned-lawful}
use Rattle.bincode_decode.proofs.NotZero.{stops-too, read-tested}
use Rattle.bincode_decode.proofs.impls.nonzero.NonZeroUsizeDecode.decode.Goals as goal

pub returns-in_err-n : goal.returns-in_err-n
returns-in_err-n g c =
    let p = err_from_is_err_and c.from_residual.result c.from_residual.ensures.1 in
    rw (p.1, p.2) (stops-too _ _ _ (λ n. refl) _ _ c.in_err-n.ensures)

pub returns : goal.returns
returns g c = read-tested _ _ _ (λ n. refl) _ _ 0 _ _ _ _ refl (unsigned-lawful _ _ _ (Eight refl)) (λ x. x.ok) (λ m h. h) (λ x m h. h) refl c.new.ensures c.not_zero.ensures c.in_ok-n.ensures
