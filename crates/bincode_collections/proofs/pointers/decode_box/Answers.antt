use Rattle.std.proofs.Common.{refl}
use Rattle.std.proofs.lemmas.Result.{err_from_is_err_and}
use Rattle.bincode_collections.proofs.MadeAnswers.{read-made, read-refused, read-failed}
use Rattle.bincode_collections.proofs.pointers.decode_box.Goals as goal

pub returns-in_err-value : goal.returns-in_err-value
returns-in_err-value g c =
    let p = err_from_is_err_and c.from_residual.result c.from_residual.ensures.1 in
    rw (p.1, p.2) (read-failed c.in_err-value.ensures)

pub returns-in_default : goal.returns-in_default
returns-in_default g c = read-refused (g.V.Value.Wire.words.lawful _) refl c.in_ok-value.ensures

pub returns : goal.returns
returns g c = read-made (λ m h. rw c.in-Ok.ensures.ok h) c.in_ok-value.ensures
