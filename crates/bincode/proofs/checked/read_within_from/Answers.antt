use Rattle.bincode_lemmas.specs.LimitedLaws.{read-limited, read-bounded}
use Rattle.bincode.proofs.checked.read_within_from.Goals as goal

pub returns-clause-limited : goal.returns-clause-limited
returns-clause-limited g c = λ told ends.
    let a = c.decode_from_reader.ensures.answer in
    read-limited (g.T.Wire.words.format g.C.Config.setting) (g.T.Wire.words.lawful g.C.Config.setting) (g.T.Wire.words.need g.C.Config.setting) (g.T.Wire.words.needs g.C.Config.setting)
    _ ends _ _ g.C.Config.bound _ (a.found told) (a.fault told) (a.limit told)

pub returns-clause-bounded : goal.returns-clause-bounded
returns-clause-bounded g c = λ told.
    read-bounded (g.T.Wire.words.format g.C.Config.setting) (g.T.Wire.words.lawful g.C.Config.setting) (g.T.Wire.words.balanced g.C.Config.setting) (g.T.Wire.words.charges_enough g.C.Config.setting)
    g.T.Wire.words.decodes_to _ _ g.C.Config.bound _ (c.decode_from_reader.ensures.answer.word told)
