use Rattle.std.proofs.Common.{subst}
use Rattle.std.proofs.lemmas.Result.{IfOk-weaker}
use Rattle.bincode_spec.specs.Charge.{StaysWithin}
use Rattle.bincode_lemmas.specs.CostLaws.{list-room}
use Rattle.proved_callers.proofs.calls.read_list.Goals as goal

pub returns : goal.returns
returns g c = λ limit bound. IfOk-weaker c.decode_from_slice.result _ _ (λ x d.
    let room = list-room _ _ _ limit d.word d.meaning d.steps d.is_word (subst (λ b. StaysWithin b 0 d.steps) bound d.within) _ _ d.is_decoded.0 in
    rw d.is_decoded.1 room) c.decode_from_slice.ensures.word
