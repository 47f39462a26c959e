use Rattle.std.proofs.Common.{inl}
use Rattle.std.proofs.lemmas.Result.{IfOk-weaker}
use Rattle.bincode_lemmas.specs.RunLaws.{run-returns}
use Rattle.bincode_collections.proofs.Reading.{read-widened}
use Rattle.bincode_collections.proofs.arrays.decode_array.Goals as goal

pub returns-in-Some-clause-read : goal.returns-in-Some-clause-read
returns-in-Some-clause-read g c = read-widened _ inl c.decode_over.ensures

pub returns-in-Some-clause-charge : goal.returns-in-Some-clause-charge
returns-in-Some-clause-charge g c =
    λ known. IfOk-weaker c.decode_over.result _ _
    (λ v d. run-returns _ g.row.N _ _ (g.V.Value.Wire.words.lawful _) (g.V.Value.Wire.words.balanced _) _ _ d.meaning _ _ c.requires d.answer_is)
    (c.decode_over.ensures.ok known)

pub returns-clause-read : goal.returns-clause-read
returns-clause-read g c = read-widened _ inl c.decode_into.ensures

pub returns-clause-charge : goal.returns-clause-charge
returns-clause-charge g c =
    λ known. IfOk-weaker c.decode_into.result _ _
    (λ v d. run-returns _ g.row.N _ _ (g.V.Value.Wire.words.lawful _) (g.V.Value.Wire.words.balanced _) _ _ d.meaning _ _ c.requires d.answer_is)
    (c.decode_into.ensures.ok known)
