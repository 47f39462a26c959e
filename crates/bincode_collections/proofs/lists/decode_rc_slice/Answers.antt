use Rattle.std.proofs.Common.{refl}
use Rattle.std.proofs.lemmas.Result.{err_from_is_err_and}
use Rattle.bincode_lemmas.specs.ListLaws.{list-lawful}
use Rattle.bincode_collections.proofs.MadeAnswers.{read-made, read-refused, read-failed}
use Rattle.bincode_collections.proofs.lists.decode_rc_slice.Goals as goal

pub returns-in_err-list : goal.returns-in_err-list
returns-in_err-list g c =
    let p = err_from_is_err_and c.from_residual.result c.from_residual.ensures.1 in
    rw (p.1, p.2) (read-failed c.in_err-list.ensures.read)

pub returns : goal.returns
returns g c = read-made (λ m h. rw c.in-Ok.ensures h.0) c.in_ok-list.ensures.read

pub returns-in_default : goal.returns-in_default
returns-in_default g c = read-refused (list-lawful _ _ _ (g.V.Value.Wire.words.lawful _)) refl c.in_ok-list.ensures.read
